-- How many states the packages so far have.
use Rattle.std.proofs.Common.{◌≡◌, ℕ, ◌+◌, ◌<◌, ◌≤◌, List, [], ◌∷◌, length, map, get_or, take, sum, refl, sym, ap, ◌∙◌, subst, inl, inr, arith, ◌-◌, ◌^◌}
use Rattle.std.specs.Prelude.{min}
use Rattle.std.specs.List.Sorted.{IsStrictlySortedBy}
use Rattle.std.proofs.Math.Nat.{min-eq_left, min-eq_right}
use Rattle.std.proofs.lemmas.Bool.{cases_lt}
use Rattle.std.proofs.lemmas.List.{get_or-map, length-map}
use Rattle.std.proofs.lemmas.List.Sums.{sum_by_more, sum_by_more_le}
use Rattle.jl_versions.specs.Order.{version_cmp}
use Rattle.offer_terms.specs.Offered.{offering}
use Rattle.offer_terms.specs.Booked.{Packed, unread, package_at}
use Rattle.offer_terms.specs.Kept.{DoRise}
use Rattle.offer_terms.specs.declared.offer.Offer.{Offer}
use Rattle.book_graph.specs.StandsFor.{sizes_of, state_count}

saturated : (s d m : ℕ) → min (min s m + d) m ≡ min (s + d) m
saturated s d m = elim (cases_lt s m) [
  | inl below ↦ ap (λ k. min (k + d) m) (min-eq_left (omega (arith, below)))
  | inr past ↦ ap (λ k. min (k + d) m) (min-eq_right past) ∙ min-eq_right (omega arith) ∙ sym (min-eq_right (omega (arith, past)))
]

pub count_at : (book : List Packed) (p : ℕ) → p < length book → get_or (sizes_of book) p 0 ≡ length (package_at book p).offers + 1
count_at book p inside = get_or-map state_count book p (unread [] []) 0 inside

sizes_long : (book : List Packed) (p : ℕ) → p < length book → p < length (sizes_of book)
sizes_long book p inside = omega (arith, inside, length-map book state_count)

pub total_more : (book : List Packed) (n total more next m : ℕ) → n < length book → total ≡ min (sum (take n (sizes_of book))) m → more ≡ length (package_at book n).offers → next ≡ min (total + (more + 1)) m →
    next ≡ min (sum (take (n + 1) (sizes_of book))) m
total_more book n total more next m inside so_far offers is =
    let step : sum (take (n + 1) (sizes_of book)) ≡ sum (take n (sizes_of book)) + (more + 1) =
    sum_by_more (λ (k : ℕ). k) (sizes_of book) n 0 (sizes_long book n inside) ∙ ap (λ k. sum (take n (sizes_of book)) + k) (count_at book n inside ∙ ap (λ k. k + 1) (sym offers)) in
    is ∙ ap (λ k. min (k + (more + 1)) m) so_far ∙ saturated (sum (take n (sizes_of book))) (more + 1) m ∙ ap (λ k. min k m) (sym step)

-- no package has more states than all together
pub few_offers : (book : List Packed) → sum (sizes_of book) ≤ 65536 → (p : ℕ) → p < length book → length (package_at book p).offers < 65536
few_offers book small p inside =
    let one = sum_by_more_le (λ (k : ℕ). k) (sizes_of book) p 0 (sizes_long book p inside) in
    omega (arith, small, one, count_at book p inside)

versions_map : (offers : List Offer) → map (λ x. x.version) (map offering offers) ≡ map (λ (o : Offer). o.version) offers
versions_map [] = refl
versions_map (o ∷ offers) = ap (λ vs. o.version ∷ vs) (versions_map offers)

pub rising_offers : (book : List Packed) (p : ℕ) (offers : List Offer) → map offering offers ≡ (package_at book p).offers → DoRise offers → IsStrictlySortedBy version_cmp (map (λ x. x.version) (package_at book p).offers)
rising_offers book p offers is rising = subst (λ vs. IsStrictlySortedBy version_cmp vs) (sym (versions_map offers) ∙ ap (map (λ x. x.version)) is) rising

-- each package has a state
pub some_states : (book : List Packed) (sizes : List ℕ) → sizes ≡ sizes_of book → (p : ℕ) → p < length sizes → 0 < get_or sizes p 0
some_states book sizes is p inside =
    let known : p < length book = omega (arith, inside, ap length is, length-map book state_count) in
    omega (arith, ap (λ xs. get_or xs p 0) is, count_at book p known)

-- a count within a limit is the whole
pub within_total : (sizes : List ℕ) (total : ℕ) → total ≡ min (sum sizes) (2 ^ 64 - 1) → total ≤ 65536 → sum sizes ≤ 65536
within_total sizes total is small = elim (cases_lt (sum sizes) (2 ^ 64 - 1)) [
  | inl l ↦ omega (arith, small, is ∙ min-eq_left {n = sum sizes} {m = 2 ^ 64 - 1} (omega (arith, l)))
  | inr l ↦ absurd (omega (arith, small, is ∙ min-eq_right {n = 2 ^ 64 - 1} {m = sum sizes} l))
]

pub past_total : (sizes : List ℕ) (total : ℕ) → total ≡ min (sum sizes) (2 ^ 64 - 1) → 65536 < total → 65536 < sum sizes
past_total sizes total is past = elim (cases_lt (sum sizes) (2 ^ 64 - 1)) [
  | inl l ↦ omega (arith, past, is ∙ min-eq_left {n = sum sizes} {m = 2 ^ 64 - 1} (omega (arith, l)))
  | inr l ↦ omega (arith, l)
]
