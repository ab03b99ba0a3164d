-- The identifiers so far are listed, and the rest is left.
use Rattle.std.proofs.Common.{◌≡◌, ◌++◌}
use Rattle.std.specs.BTreeSet.{btree_set_len}
use Rattle.package_names.proofs.stanza_ids.in_order.Given as goal

abbrev pub invariant-ids : goal.invariant-ids
invariant-ids l = l.fn.ids.keys ≡ l.list.items ++ l.left.keys

abbrev pub decreases-ids : goal.decreases-ids
decreases-ids l = btree_set_len l.left
