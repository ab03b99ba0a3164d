-- No package so far lacks its offer.
use Rattle.std.proofs.Common.{ℕ, ◌<◌}
use Rattle.offer_terms.specs.Booked.{package_at, book_offers}
use Rattle.selection_check.specs.Breaches.{LacksOffer}
use Rattle.selection_check.proofs.breaches.missing_offer.Given as goal

abbrev pub invariant-loop-package : goal.invariant-loop-package
invariant-loop-package l = (q : ℕ) → q < l.package → LacksOffer (book_offers l.book) l.selection.items (package_at l.book q).uuid → ⊥
