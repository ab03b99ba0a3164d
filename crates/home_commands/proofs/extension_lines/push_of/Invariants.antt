-- The lines so far, and those of the rest.
use Rattle.std.proofs.Common.{◌≡◌, ◌++◌, drop, string_bytes}
use Rattle.manifest_file.specs.Said.{said_stanza}
use Rattle.manifest_file.specs.Steps.{has_id}
use Rattle.home_commands.specs.ExtensionLines.{lines_named}
use Rattle.home_commands.proofs.extension_lines.push_of.Given as goal

abbrev pub invariant-loop-name : goal.invariant-loop-name
invariant-loop-name l =
    string_bytes l.initial.text ++ lines_named (has_id l.has) (said_stanza l.stanza) l.stanza.extensions.items
    ≡ string_bytes l.text ++ lines_named (has_id l.has) (said_stanza l.stanza) (drop l.name-index l.stanza.extensions.items)
