-- The first of those so far, and then of the rest, is the first of all.
use Rattle.std.proofs.Common.{◌≡◌, None, drop, fold}
use Rattle.selection_check.specs.Order.{first_id}
use Rattle.selection_check.specs.Found.{lacking_other}
use Rattle.selection_check.proofs.breaches.missing_dep_of.Given as goal

abbrev pub invariant-loop-dep : goal.invariant-loop-dep
invariant-loop-dep l =
    fold (λ first x. first_id l.book first (lacking_other l.selection.items l.uuid x.1)) None l.deps
    ≡ fold (λ first x. first_id l.book first (lacking_other l.selection.items l.uuid x.1)) l.first (drop l.dep-index l.deps)
