-- the ranges so far
use Rattle.std.proofs.Common.{◌≡◌, take}
use Rattle.compat_spec.proofs.range_set.copied.Given as goal

abbrev pub invariant-loop-range : goal.invariant-loop-range
invariant-loop-range l = l.other.items ≡ take l.range-index l.ranges
