-- What is to be appended is the lines of the dependencies that are left.
use Rattle.std.proofs.Common.{◌≡◌, ◌++◌, drop, map, string_bytes}
use Rattle.std.specs.List.{flat_map}
use Rattle.manifest_file.specs.Said.{said_stanza}
use Rattle.home_commands.specs.StatusDue.{dep_line}
use Rattle.home_commands.proofs.stanza_line.push_deps.Given as goal

abbrev pub invariant-loop-name : goal.invariant-loop-name
invariant-loop-name l =
    string_bytes l.text ++ flat_map (dep_line (map said_stanza l.stanzas)) (drop l.name-index l.deps)
    ≡ string_bytes l.initial.text ++ flat_map (dep_line (map said_stanza l.stanzas)) l.deps
