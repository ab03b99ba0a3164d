-- Pairs in the order of their names, and those of them that pass a test.
use Rattle.std.proofs.Common.{◌≡◌, ℕ, Bool, true, false, cond, List, [], ◌∷◌, ◌++◌, filter, Less, refl, ap, ◌∙◌, append-nil}
use Rattle.std.specs.Ordering.{nat_cmp}
use Rattle.std.specs.Cmp.Lexicographic.{slice_cmp}
use Rattle.std.specs.FinMap.Entries.{below_all}
use Rattle.std.specs.List.{AllByRecursion}
use Rattle.std.specs.List.Sorted.{IsStrictlySortedBy}
use Rattle.std.specs.Map.{keys_of}
use Rattle.pkg_world.specs.ByName.{is_by_name}

below_all-filter : {T : Type 0} (p : List ℕ × T → Bool) (k : List ℕ) (es : List (List ℕ × T)) → AllByRecursion (λ y. slice_cmp nat_cmp k y ≡ Less) (keys_of es)
    → below_all (slice_cmp nat_cmp) k (filter p es) ≡ true
below_all-filter p k [] h = refl
below_all-filter p k (e ∷ es) h =
    let rest = below_all-filter p k es h.1 in
    elim (p e) as (λ b. below_all (slice_cmp nat_cmp) k (cond b (e ∷ filter p es) (filter p es)) ≡ true) [
      | true ↦ rw (h.0, rest)
      | false ↦ rest
    ]

-- what passes stands in the order of the names
pub by_name-filter : {T : Type 0} (p : List ℕ × T → Bool) (es : List (List ℕ × T)) → IsStrictlySortedBy (slice_cmp nat_cmp) (keys_of es) → is_by_name (filter p es) ≡ true
unfolding IsStrictlySortedBy
by_name-filter p [] h = refl
by_name-filter p (e ∷ es) h =
    let rest = by_name-filter p es h.1 in
    let below = below_all-filter p e.0 es h.0 in
    elim (p e) as (λ b. is_by_name (cond b (e ∷ filter p es) (filter p es)) ≡ true) [
      | true ↦ rw (below, rest)
      | false ↦ rest
    ]

-- all that passes was taken
pub by_name-taken : {T : Type 0} (p : List ℕ × T → Bool) (all rest taken : List (List ℕ × T)) → IsStrictlySortedBy (slice_cmp nat_cmp) (keys_of all) → filter p all ≡ taken ++ filter p rest
    → rest ≡ [] → is_by_name taken ≡ true
by_name-taken p all rest taken sorted same none =
    let whole : filter p all ≡ taken = same ∙ ap (λ es. taken ++ filter p es) none ∙ append-nil taken in
    rw (← whole) (by_name-filter p all sorted)
