use Rattle.std.proofs.Common.{◌≡◌, take}
use Rattle.maxsum_messages.proofs.building.sizes_of.Given as goal

abbrev pub invariant-loop-p : goal.invariant-loop-p
invariant-loop-p l = l.sizes.items ≡ take l.p l.instance.sizes
