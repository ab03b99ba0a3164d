-- What is to be appended is the lines of the paths that are left.
use Rattle.std.proofs.Common.{◌≡◌, ◌++◌, drop, string_bytes}
use Rattle.std.specs.List.{flat_map}
use Rattle.home_commands.specs.StatusDue.{packed_line}
use Rattle.home_commands.proofs.stanza_line.push_packed.Given as goal

abbrev pub invariant-loop-path : goal.invariant-loop-path
invariant-loop-path l = string_bytes l.text ++ flat_map packed_line (drop l.path-index l.paths) ≡ string_bytes l.initial.text ++ flat_map packed_line l.paths
