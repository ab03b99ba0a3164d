-- Each once.
use Rattle.std.proofs.Common.{◌≡◌, ℕ, ◌+◌, ◌&&◌, ◌||◌, ◌==◌, Bool, true, false, not, nat_lt, cond, List, [], ◌∷◌, ◌++◌, map, refl, ap, sym, ◌∙◌, inl, inr, arith}
use Rattle.std.proofs.lemmas.Bool.{cases_Bool}
use Rattle.std.proofs.lemmas.Bool.Decides.{nat_tests}
use Rattle.std.proofs.lemmas.List.FromFn.{filter_of_map_range_with_len_more}
use Rattle.std.specs.List.{filter, list_any, range_with_len}
use Rattle.world_maker.specs.Drawn.{distinct, with_need, candidate}

abbrev has : ℕ → List ℕ → Bool
has d needs = list_any (λ y. y == d) needs

abbrev without : ℕ → List ℕ → List ℕ
without x needs = filter (λ y. not (y == x)) needs

abbrev with_new : ℕ → List ℕ → List ℕ
with_new d needs = cond (not (has d needs)) (needs ++ d ∷ []) needs

other : (x y d : ℕ) → (y == x) ≡ true → (x == d) ≡ false → (y == d) ≡ false
other x y d same apart = grind (arith, nat_tests)

turned : (x d : ℕ) → (x == d) ≡ (d == x)
turned x d = grind (arith, nat_tests)

-- what is left out doesn't count for another
has_without : (x d : ℕ) (needs : List ℕ) → (x == d) ≡ false → has d (without x needs) ≡ has d needs
has_without x d [] apart = refl
has_without x d (y ∷ needs) apart =
    elim (cases_Bool (y == x)) [
      | inl same ↦ rw (same, other x y d same apart) (has_without x d needs apart)
      | inr kept ↦ rw (kept) (ap (λ b. (y == d) || b) (has_without x d needs apart))
    ]

without_more : (x d : ℕ) (needs : List ℕ) → without x (needs ++ d ∷ []) ≡ without x needs ++ without x (d ∷ [])
without_more x d [] = refl
without_more x d (y ∷ needs) =
    elim (cases_Bool (y == x)) [
      | inl same ↦ rw (same) (without_more x d needs)
      | inr kept ↦ rw (kept) (ap (λ ys. y ∷ ys) (without_more x d needs))
    ]

nothing_behind : (xs : List ℕ) → xs ++ [] ≡ xs
nothing_behind [] = refl
nothing_behind (x ∷ xs) = ap (λ ys. x ∷ ys) (nothing_behind xs)

without_new : (x d : ℕ) (b : Bool) (needs : List ℕ) → (x == d) ≡ true → without x (cond b (needs ++ d ∷ []) needs) ≡ without x needs
without_new x d false needs same = refl
without_new x d true needs same =
    let same' : (d == x) ≡ true = sym (turned x d) ∙ same in
    without_more x d needs ∙ ap (λ b. without x needs ++ cond (not b) (d ∷ []) []) same' ∙ nothing_behind (without x needs)

without_other : (x d : ℕ) (b : Bool) (needs : List ℕ) → (x == d) ≡ false → without x (cond b (needs ++ d ∷ []) needs) ≡ cond b (without x needs ++ d ∷ []) (without x needs)
without_other x d false needs apart = refl
without_other x d true needs apart =
    let apart' : (d == x) ≡ false = sym (turned x d) ∙ apart in
    without_more x d needs ∙ ap (λ b. without x needs ++ cond (not b) (d ∷ []) []) apart'

front : (x d : ℕ) (b : Bool) (needs : List ℕ) → x ∷ cond b (needs ++ d ∷ []) needs ≡ cond b ((x ∷ needs) ++ d ∷ []) (x ∷ needs)
front x d false needs = refl
front x d true needs = refl

pub distinct_more : (xs : List ℕ) (d : ℕ) → distinct (xs ++ d ∷ []) ≡ with_new d (distinct xs)
distinct_more [] d = refl
distinct_more (x ∷ xs) d =
    ap (λ ys. x ∷ without x ys) (distinct_more xs d)
    ∙ elim (cases_Bool (x == d)) [
      | inl same ↦ ap (λ ys. x ∷ ys) (without_new x d (not (has d (distinct xs))) (distinct xs) same) ∙ sym (ap (λ b. cond (not (b || has d (without x (distinct xs)))) ((x ∷ without x (distinct xs)) ++ d ∷ []) (x ∷ without x (distinct xs))) same)
      | inr apart ↦
          ap (λ ys. x ∷ ys) (without_other x d (not (has d (distinct xs))) (distinct xs) apart)
          ∙ front x d (not (has d (distinct xs))) (without x (distinct xs))
          ∙ ap (λ b. cond (not b) ((x ∷ without x (distinct xs)) ++ d ∷ []) (x ∷ without x (distinct xs))) (sym (ap (λ b. b || has d (without x (distinct xs))) apart ∙ has_without x d (distinct xs) apart))
    ]

distinct_kept : (xs : List ℕ) (b : Bool) (d : ℕ) → distinct (xs ++ cond b (d ∷ []) []) ≡ cond (b && not (has d (distinct xs))) (distinct xs ++ d ∷ []) (distinct xs)
distinct_kept xs true d = distinct_more xs d
distinct_kept xs false d = ap distinct (nothing_behind xs)

-- one candidate more
pub candidates_more : (x k count j : ℕ) → distinct (filter (λ d. nat_lt d count) (map (candidate x k) (range_with_len 0 (j + 1))))
    ≡ with_need count (candidate x k j) (distinct (filter (λ d. nat_lt d count) (map (candidate x k) (range_with_len 0 j))))
candidates_more x k count j =
    ap distinct (filter_of_map_range_with_len_more (λ d. nat_lt d count) (candidate x k) 0 j j (omega arith))
    ∙ distinct_kept (filter (λ d. nat_lt d count) (map (candidate x k) (range_with_len 0 j))) (nat_lt (candidate x k j) count) (candidate x k j)
