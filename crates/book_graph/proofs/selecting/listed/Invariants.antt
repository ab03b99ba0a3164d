-- The versions so far are listed, and the rest is left.
use Rattle.std.proofs.Common.{◌≡◌, ◌++◌}
use Rattle.std.specs.BTreeMap.{btree_map_len}
use Rattle.book_graph.proofs.selecting.listed.Given as goal

abbrev pub invariant-versions : goal.invariant-versions
invariant-versions l = l.fn.versions.entries ≡ l.list.items ++ l.left.entries

abbrev pub decreases-versions : goal.decreases-versions
decreases-versions l = btree_map_len l.left
