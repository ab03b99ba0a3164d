-- The first of those so far, and then of the rest, is the first of all.
use Rattle.std.proofs.Common.{◌≡◌, None, drop, fold}
use Rattle.selection_check.specs.Order.{first_id}
use Rattle.selection_check.specs.Found.{unheld}
use Rattle.selection_check.proofs.breaches.unknown.Given as goal

abbrev pub invariant-loop-pair : goal.invariant-loop-pair
invariant-loop-pair l =
    fold (λ first x. first_id l.book first (unheld l.book x.0)) None l.pairs
    ≡ fold (λ first x. first_id l.book first (unheld l.book x.0)) l.first (drop l.pair-index l.pairs)
