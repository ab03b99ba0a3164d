use Rattle.std.proofs.Common.{◌≡◌, take}
use Rattle.pkg_world.proofs.list.Listed.copy.Given as goal

abbrev pub invariant-loop-item : goal.invariant-loop-item
invariant-loop-item g l = l.other.items ≡ take l.item-index l.item-items
