use Rattle.std.proofs.Common.{◌≡◌, ◌++◌, map, string_bytes}
use Rattle.pkg_world.specs.Tree.{names}
use Rattle.pkg_world.specs.Stored.{files_view}
use Rattle.pkg_world.proofs.tree.names_in.Given as goal

abbrev pub invariant-loop-name : goal.invariant-loop-name
invariant-loop-name l = l.found.items ++ map string_bytes l.name-iterator ≡ names (files_view l.entries)
