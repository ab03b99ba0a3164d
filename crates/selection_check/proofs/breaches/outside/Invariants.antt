-- No package so far has something outside what it allows.
use Rattle.std.proofs.Common.{ℕ, ◌<◌}
use Rattle.jl_versions.specs.Triple.{triple_of}
use Rattle.offer_terms.specs.Offered.{Id}
use Rattle.offer_terms.specs.Booked.{package_at, book_offers}
use Rattle.selection_check.specs.Breaches.{Excludes}
use Rattle.selection_check.proofs.breaches.outside.Given as goal

abbrev pub invariant-loop-package : goal.invariant-loop-package
invariant-loop-package l = (q : ℕ) → q < l.package → (d : Id) → Excludes (book_offers l.book) (triple_of l.julia) l.selection.items (package_at l.book q).uuid d → ⊥
