-- A book whose packages have few offers has few of any number.
use Rattle.std.proofs.Common.{◌≡◌, ℕ, ◌^◌, ◌<◌, List, [], length, ap, inl, inr, arith}
use Rattle.std.proofs.Math.ListN.{get_or-eq_default}
use Rattle.std.proofs.lemmas.Bool.{cases_lt}
use Rattle.offer_terms.specs.Booked.{Packed, package_at, unread}
use Rattle.selection_check.specs.Raises.{HasFewOffers}

pub all_few : (book : List Packed) → ((p : ℕ) → p < length book → length (package_at book p).offers < 2 ^ 32) → HasFewOffers book
all_few book few p = elim (cases_lt p (length book)) [
  | inl inside ↦ few p inside
  | inr past ↦
      let none : length (package_at book p).offers ≡ 0 = ap (λ it. length it.offers) (get_or-eq_default book (unread [] []) (omega (arith, past))) in
      omega (arith, none)
]
