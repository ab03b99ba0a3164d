-- The first of those so far, and then of the rest, is the first of all.
use Rattle.std.proofs.Common.{◌≡◌, None, drop, fold, map}
use Rattle.jl_versions.specs.Triple.{triple_of}
use Rattle.offer_terms.specs.Offered.{allowing}
use Rattle.selection_check.specs.Order.{first_id}
use Rattle.selection_check.specs.Found.{outside_entry}
use Rattle.selection_check.proofs.breaches.outside_of.Given as goal

abbrev pub invariant-loop-entry : goal.invariant-loop-entry
invariant-loop-entry l =
    fold (λ first x. first_id l.book first (outside_entry (triple_of l.julia) l.selection.items l.uuid x)) None (map allowing l.entries)
    ≡ fold (λ first x. first_id l.book first (outside_entry (triple_of l.julia) l.selection.items l.uuid x)) l.first (map allowing (drop l.entry-index l.entries))
