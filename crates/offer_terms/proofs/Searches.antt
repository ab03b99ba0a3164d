-- What a binary search finds among items whose keys strictly rise.
use Rattle.std.proofs.Common.{◌≡◌, ℕ, ◌+◌, ◌<◌, Bool, false, List, [], ◌∷◌, map, length, get_or, Some, None, Ordering, Less, Equal, Greater, nat_cmp, is_eq, is_lt, bytes_eq, position, refl, sym, ap, ap₂, ◌∙◌, inl, inr, arith}
use Rattle.std.specs.Cmp.{IsTotalOrder}
use Rattle.std.specs.List.{HoldsAt, position_or_len}
use Rattle.std.specs.List.Sorted.{IsStrictlySortedBy, IsNonDecreasingBy, IsPartitionPoint, IsSortedBy}
use Rattle.std.specs.Ordering.{ordering_reverse, ordering_index}
use Rattle.std.proofs.lemmas.Bool.{cases_lt}
use Rattle.std.proofs.lemmas.List.{get_or-map, length-map}
use Rattle.std.proofs.lemmas.List.Sorted.{searchable_from_sorted}
use Rattle.std.proofs.lemmas.List.Sums.{position_or_len_is}
use Rattle.std.proofs.lemmas.Map.Keys.{Less-from_sorted}
use Rattle.std.specs.Cmp.Lexicographic.{slice_cmp}
use Rattle.std.proofs.lemmas.Cmp.{nat_list_cmp_total}
use Rattle.std.proofs.lemmas.Map.Text.{is_eq-slice_cmp}
use Rattle.offer_terms.specs.ById.{AreRising}
use Rattle.offer_terms.proofs.Finds.{position_at, position_past}

module _ {K X : Type 0} {R : K → K → Ordering} (o : IsTotalOrder R) (key : X → K) where
  -- a later key is above an earlier one
  keys_rise : (xs : List X) (i j : ℕ) (d : X) → IsStrictlySortedBy R (map key xs) → i < j → j < length xs → R (key (get_or xs i d)) (key (get_or xs j d)) ≡ Less
  keys_rise xs i j d sorted before inside =
      let both : (get_or (map key xs) i (key d) ≡ key (get_or xs i d)) × (get_or (map key xs) j (key d) ≡ key (get_or xs j d)) =
      (get_or-map key xs i d (key d) (omega arith), get_or-map key xs j d (key d) inside) in
      let less : R (get_or (map key xs) i (key d)) (get_or (map key xs) j (key d)) ≡ Less =
      Less-from_sorted R (map key xs) i j (key d) sorted before (omega (arith, length-map xs key)) in
      sym (ap₂ R both.0 both.1) ∙ less

  turned : (x y : K) (r : Ordering) → R x y ≡ r → R y x ≡ ordering_reverse r
  turned x y r is = o.antisymm y x ∙ ap ordering_reverse is

  -- none is less than the one before it
  sorted_weakly : (xs : List X) → IsStrictlySortedBy R (map key xs) → IsSortedBy (λ a b. is_lt (R (key a) (key b))) xs
  sorted_weakly xs sorted k d low high = ap is_lt (turned _ _ Less (keys_rise xs k (k + 1) d sorted (omega arith) high))

  module _ (q : K) where
    -- the test of a look-up
    abbrev pub has_key : X → Bool
    has_key y = is_eq (R q (key y))

    apart : (y : X) (r : Ordering) → R (key y) q ≡ r → is_eq (ordering_reverse r) ≡ false → has_key y ≡ false
    apart y r is other = ap is_eq (turned (key y) q r is) ∙ other

    -- a key before one that is q isn't q
    before_is_apart : (x y : K) → R x y ≡ Less → R y q ≡ Equal → is_eq (R q x) ≡ false
    before_is_apart x y less same = ap is_eq (sym (o.congr y q x same) ∙ turned x y Less less)

    -- the item that the search gives is the first of that key
    pub searched_hit : (xs : List X) (i : ℕ) → i < length xs → HoldsAt (λ y. R (key y) q ≡ Equal) xs i → IsStrictlySortedBy R (map key xs) → Some i ≡ position has_key xs
    searched_hit [] i inside here sorted = absurd (omega (arith, inside))
    searched_hit (x ∷ xs) i inside here sorted = position_at has_key (x ∷ xs) i first inside
      where
        before : (k : ℕ) → k < i → has_key (get_or (x ∷ xs) k x) ≡ false
        before k below = before_is_apart _ _ (keys_rise (x ∷ xs) k i x sorted below inside) (here x)

        first : position_or_len has_key (x ∷ xs) ≡ i
        first = position_or_len_is has_key (x ∷ xs) i x (omega arith) before (λ _. ap is_eq (turned _ q Equal (here x)))

    -- where the search gives a place between the lower and the greater keys, no item has the key
    pub searched_miss : (xs : List X) (i : ℕ) → (IsNonDecreasingBy (λ y. ordering_index (R (key y) q)) xs → IsPartitionPoint (λ y. R (key y) q ≡ Less) (λ y. R (key y) q ≡ Greater) xs i)
        → IsStrictlySortedBy R (map key xs) → None ≡ position has_key xs
    searched_miss [] i point sorted = refl
    searched_miss (x ∷ xs) i point sorted = position_past has_key (x ∷ xs) (position_or_len_is has_key (x ∷ xs) (length (x ∷ xs)) x (omega arith) none (λ past. absurd (omega (arith, past))))
      where
        sides : IsPartitionPoint (λ y. R (key y) q ≡ Less) (λ y. R (key y) q ≡ Greater) (x ∷ xs) i
        sides = point (searchable_from_sorted o key (x ∷ xs) q (sorted_weakly (x ∷ xs) sorted))

        none : (k : ℕ) → k < length (x ∷ xs) → has_key (get_or (x ∷ xs) k x) ≡ false
        none k inside = elim (cases_lt k i) [
          | inl below ↦ apart _ Less (sides.0 k x (omega arith) below) refl
          | inr above ↦ apart _ Greater (sides.1 k x above inside) refl
        ]

-- ---- by identifiers, and by versions

pub id_hit : {X : Type 0} (id : X → List ℕ) (u : List ℕ) (xs : List X) (i : ℕ) → i < length xs → HoldsAt (λ y. slice_cmp nat_cmp (id y) u ≡ Equal) xs i → AreRising (map id xs) → Some i ≡ position (λ y. bytes_eq u (id y)) xs
id_hit id u xs i inside here rising = searched_hit nat_list_cmp_total id u xs i inside here rising ∙ (λ k. position (λ y. is_eq-slice_cmp u (id y) k) xs)

pub id_miss : {X : Type 0} (id : X → List ℕ) (u : List ℕ) (xs : List X) (i : ℕ)
    → (IsNonDecreasingBy (λ y. ordering_index (slice_cmp nat_cmp (id y) u)) xs → IsPartitionPoint (λ y. slice_cmp nat_cmp (id y) u ≡ Less) (λ y. slice_cmp nat_cmp (id y) u ≡ Greater) xs i)
    → AreRising (map id xs) → None ≡ position (λ y. bytes_eq u (id y)) xs
id_miss id u xs i point rising = searched_miss nat_list_cmp_total id u xs i point rising ∙ (λ k. position (λ y. is_eq-slice_cmp u (id y) k) xs)
