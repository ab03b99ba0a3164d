-- Where no limit of the instance is passed, no package has too many offers for the search for raises.
use Rattle.std.proofs.Common.{◌≡◌, ℕ, ◌+◌, ◌≤◌, List, [], length, get_or, sum, ap, inl, inr, arith}
use Rattle.std.proofs.Math.ListN.{get_or-eq_default}
use Rattle.std.proofs.lemmas.Bool.{cases_lt}
use Rattle.std.proofs.lemmas.List.{get_or-map, length-map}
use Rattle.std.proofs.lemmas.List.Sums.{get_or-le-sum_by}
use Rattle.offer_terms.specs.Booked.{Packed, package_at, unread}
use Rattle.offer_terms.specs.Demanded.{Wanted}
use Rattle.book_graph.specs.StandsFor.{sizes_of, state_count}
use Rattle.book_graph.specs.Limits.{Fits}
use Rattle.selection_check.specs.Raises.{HasFewOffers}

-- no package has more offers than all have states
few_offers : (book : List Packed) (p : ℕ) → sum (sizes_of book) ≤ 65536 → length (package_at book p).offers ≤ 65536
few_offers book p small = elim (cases_lt p (length book)) [
  | inl inside ↦
      let here : get_or (sizes_of book) p 0 ≤ sum (sizes_of book) = get_or-le-sum_by (λ (k : ℕ). k) (sizes_of book) p 0 (omega (arith, inside, length-map book state_count)) in
      let count : get_or (sizes_of book) p 0 ≡ length (package_at book p).offers + 1 = get_or-map state_count book p (unread [] []) 0 inside in
      omega (arith, here, count, small)
  | inr past ↦
      let none : length (package_at book p).offers ≡ 0 = ap (λ it. length it.offers) (get_or-eq_default book (unread [] []) (omega (arith, past))) in
      omega (arith, none)
]

pub has_few : (book : List Packed) (w : Wanted) → Fits book w → HasFewOffers book
has_few book w fits p = let small = few_offers book p fits.small in omega (arith, small)
