use Rattle.std.proofs.Common.{◌≡◌, length}
use Rattle.package_tables.specs.Clash as spec
use Rattle.package_tables.proofs.section_value.same_ranges.Given as goal

abbrev pub invariant-loop-range : goal.invariant-loop-range
invariant-loop-range l = spec.same_ranges l.fn.left l.fn.right ≡ spec.same_ranges l.left l.right

abbrev pub decreases-loop-range : goal.decreases-loop-range
decreases-loop-range l = length l.left
