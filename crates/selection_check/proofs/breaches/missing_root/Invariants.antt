-- The first of those so far, and then of the rest, is the first of all.
use Rattle.std.proofs.Common.{◌≡◌, None, drop, fold}
use Rattle.selection_check.specs.Order.{first_id}
use Rattle.selection_check.specs.Found.{lacking}
use Rattle.selection_check.proofs.breaches.missing_root.Given as goal

abbrev pub invariant-loop-root : goal.invariant-loop-root
invariant-loop-root l =
    fold (λ first x. first_id l.book first (lacking l.selection.items x.1)) None l.roots
    ≡ fold (λ first x. first_id l.book first (lacking l.selection.items x.1)) l.first (drop l.root-index l.roots)
