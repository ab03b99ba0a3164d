-- What is to be appended is the lines of the stanzas that are left.
use Rattle.std.proofs.Common.{◌≡◌, ◌++◌, drop, map, string_bytes}
use Rattle.std.specs.List.{flat_map}
use Rattle.manifest_file.specs.Said.{said_stanza}
use Rattle.home_commands.specs.StatusDue.{stanza_line}
use Rattle.home_commands.proofs.stanza_line.push_stanzas.Given as goal

abbrev pub invariant-loop-stanza : goal.invariant-loop-stanza
invariant-loop-stanza l =
    string_bytes l.text ++ flat_map stanza_line (map said_stanza (drop l.stanza-index l.stanzas)) ≡ string_bytes l.initial.text ++ flat_map stanza_line (map said_stanza l.stanzas)
