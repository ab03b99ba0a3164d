-- the packages so far, and those to come
use Rattle.std.proofs.Common.{◌≡◌, ◌++◌, drop, map, filter}
use Rattle.offer_terms.specs.Demanded.{fixed_said}
use Rattle.project_changes.specs.Fixing.{is_before}
use Rattle.project_changes.proofs.fixing.push_before.Given as goal

abbrev pub invariant-loop-fixed : goal.invariant-loop-fixed
invariant-loop-fixed l =
    map fixed_said l.initial.copies.items ++ filter (is_before l.uuid) (map fixed_said l.items) ≡ map fixed_said l.copies.items ++ filter (is_before l.uuid) (map fixed_said (drop l.fixed-index l.items))
