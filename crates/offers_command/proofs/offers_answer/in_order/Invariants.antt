use Rattle.std.proofs.Common.{◌≡◌, ◌++◌}
use Rattle.std.specs.BTreeSet.{btree_set_len}
use Rattle.offers_command.proofs.offers_answer.in_order.Given as goal

abbrev pub invariant-uuids : goal.invariant-uuids
invariant-uuids l = l.fn.uuids.keys ≡ l.ids.items ++ l.uuids.keys

abbrev pub decreases-uuids : goal.decreases-uuids
decreases-uuids l = btree_set_len l.uuids
