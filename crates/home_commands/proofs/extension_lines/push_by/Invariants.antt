-- The lines so far, and those of the rest.
use Rattle.std.proofs.Common.{◌≡◌, ◌++◌, drop, map, string_bytes}
use Rattle.manifest_file.specs.Said.{said_stanza}
use Rattle.manifest_file.specs.Steps.{has_id}
use Rattle.home_commands.specs.ExtensionLines.{lines_by}
use Rattle.home_commands.proofs.extension_lines.push_by.Given as goal

abbrev pub invariant-loop-stanza : goal.invariant-loop-stanza
invariant-loop-stanza l =
    string_bytes l.initial.text ++ lines_by (has_id l.has) (map said_stanza l.stanzas)
    ≡ string_bytes l.text ++ lines_by (has_id l.has) (map said_stanza (drop l.stanza-index l.stanzas))
