-- Each selected package so far is marked.
use Rattle.std.proofs.Common.{ℕ, ◌<◌}
use Rattle.offer_terms.specs.Booked.{package_at}
use Rattle.selection_check.specs.Needing.{IsUnmarked}
use Rattle.selection_check.proofs.checking.unmarked.Given as goal

abbrev pub invariant-loop-package : goal.invariant-loop-package
invariant-loop-package l = (q : ℕ) → q < l.package → IsUnmarked l.book l.selection.items l.marks (package_at l.book q).uuid → ⊥
