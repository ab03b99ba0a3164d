-- the packages so far, and those to come
use Rattle.std.proofs.Common.{◌≡◌, ◌++◌, drop, map}
use Rattle.offer_terms.specs.Demanded.{fixed_said}
use Rattle.project_changes.specs.Fixing.{without_fixed}
use Rattle.project_changes.proofs.fixing.without_fixed.Given as goal

abbrev pub invariant-loop-fixed : goal.invariant-loop-fixed
invariant-loop-fixed l = without_fixed l.uuid (map fixed_said l.items) ≡ map fixed_said l.copies.items ++ without_fixed l.uuid (map fixed_said (drop l.fixed-index l.items))
