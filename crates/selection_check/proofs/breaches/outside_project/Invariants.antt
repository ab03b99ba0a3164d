-- The first of those so far, and then of the rest, is the first of all.
use Rattle.std.proofs.Common.{◌≡◌, None, drop, fold, map}
use Rattle.offer_terms.specs.Demanded.{spec_entry}
use Rattle.selection_check.specs.Order.{first_id}
use Rattle.selection_check.specs.Found.{outside_spec}
use Rattle.selection_check.proofs.breaches.outside_project.Given as goal

abbrev pub invariant-loop-entry : goal.invariant-loop-entry
invariant-loop-entry l =
    fold (λ first x. first_id l.book first (outside_spec l.selection.items x)) None (map spec_entry l.entries)
    ≡ fold (λ first x. first_id l.book first (outside_spec l.selection.items x)) l.first (map spec_entry (drop l.entry-index l.entries))
