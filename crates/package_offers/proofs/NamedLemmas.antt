-- Pairs in the order of their names: those that pass a test, and looking a name up by halving.
use Rattle.std.proofs.Common.{◌≡◌, ℕ, ◌+◌, ◌<◌, ◌≤◌, Bool, true, false, cond, not, List, [], ◌∷◌, ◌++◌, append-nil, length, get_or, filter, Option, Some, None, Result, Ok, Err, MatchResult, refl, sym, ap, ◌∙◌, arith}
use Rattle.std.proofs.Math.ListN.{get_or-map}
use Rattle.std.proofs.lemmas.Bool.{and_parts}
use Rattle.std.proofs.lemmas.List.Sorted.{searchable_from_sorted}
use Rattle.std.proofs.lemmas.Map.Entries.{length-keys_of, lookup_from_place, lookup_at_gap}
use Rattle.std.proofs.lemmas.Map.Keys.{IsDistinct-from_sorted, Less-from_sorted}
use Rattle.std.proofs.lemmas.Option.{slice_get-get_or, slice_get_within, get_or_from_slice_get}
use Rattle.std.specs.BTreeMap.{is_at}
use Rattle.std.specs.Cmp.{eq_by_cmp_equiv}
use Rattle.std.specs.Cmp.Lexicographic.{nat_list_cmp_total}
use Rattle.std.specs.FinMap.Entries.{below_all}
use Rattle.std.specs.List.{AllByRecursion, HoldsAt, slice_get}
use Rattle.std.specs.List.Sorted.{IsStrictlySortedBy, IsSortedBy, IsBinarySearchResult, IsPartitionPoint}
use Rattle.std.specs.Map.{keys_of, lookup}
use Rattle.std.specs.Ordering.{is_lt, is_eq, eq_by_cmp, ordering_reverse}
use Rattle.std.specs.declared.cmp.Ordering.{Ordering}
use Rattle.std.specs.declared.cmp.Ordering.TheVariants.{Less, Equal, Greater}
use Rattle.pkg_world.specs.ByName.{is_by_name}
use Rattle.package_tables.specs.Row.{by_bytes, value_of}

less : (o : Ordering) → is_lt o ≡ true → o ≡ Less
less Less h = refl
less Equal h = cc
less Greater h = cc

below_keys : {T : Type 0} (name : List ℕ) (es : List (List ℕ × T)) → below_all by_bytes name es ≡ true → AllByRecursion (λ y. by_bytes name y ≡ Less) (keys_of es)
below_keys name [] h = tt
below_keys name (e ∷ es) h =
    let (here, more) = and_parts (is_lt (by_bytes name e.0)) (below_all by_bytes name es) h in (less (by_bytes name e.0) here, below_keys name es more)

sorted_keys : {T : Type 0} (es : List (List ℕ × T)) → is_by_name es ≡ true → IsStrictlySortedBy by_bytes (keys_of es)
unfolding IsStrictlySortedBy
sorted_keys [] h = tt
sorted_keys (e ∷ es) h =
    let (here, more) = and_parts (below_all by_bytes e.0 es) (is_by_name es) h in (below_keys e.0 es here, sorted_keys es more)

-- ---- those that pass

below_filter : {T : Type 0} (p : List ℕ × T → Bool) (name : List ℕ) (es : List (List ℕ × T)) → below_all by_bytes name es ≡ true → below_all by_bytes name (filter p es) ≡ true
below_filter p name [] h = refl
below_filter p name (e ∷ es) h =
    let (here, more) = and_parts (is_lt (by_bytes name e.0)) (below_all by_bytes name es) h in
    let rest = below_filter p name es more in
    elim (p e) as (λ b. below_all by_bytes name (cond b (e ∷ filter p es) (filter p es)) ≡ true) [ true ↦ rw (here, rest) | false ↦ rest ]

pub by_name-filter : {T : Type 0} (p : List ℕ × T → Bool) (es : List (List ℕ × T)) → is_by_name es ≡ true → is_by_name (filter p es) ≡ true
by_name-filter p [] h = refl
by_name-filter p (e ∷ es) h =
    let (here, more) = and_parts (below_all by_bytes e.0 es) (is_by_name es) h in
    let rest = by_name-filter p es more in
    let below = below_filter p e.0 es here in
    elim (p e) as (λ b. is_by_name (cond b (e ∷ filter p es) (filter p es)) ≡ true) [ true ↦ rw (below, rest) | false ↦ rest ]

-- all that passes was taken
pub by_name-taken : {T : Type 0} (p : List ℕ × T → Bool) (all rest taken : List (List ℕ × T)) → is_by_name all ≡ true → filter p all ≡ taken ++ filter p rest → rest ≡ [] → is_by_name taken ≡ true
by_name-taken p all rest taken rise same none =
    let whole : filter p all ≡ taken = same ∙ ap (λ es. taken ++ filter p es) none ∙ append-nil taken in
    rw (← whole) (by_name-filter p all rise)

-- ---- looking a name up

module _ {T : Type 0} (es : List (List ℕ × T)) (rise : is_by_name es ≡ true) (name : List ℕ) where
  abbrev against : List ℕ × T → Ordering
  against e = by_bytes e.0 name

  ordered : IsSortedBy (λ a b. is_lt (by_bytes a.0 b.0)) es
  ordered k d low high =
      let inside : k + 1 < length (keys_of es) = omega (arith, length-keys_of es) in
      let next : k < k + 1 = omega arith in
      let below : by_bytes (get_or es k d).0 (get_or es (k + 1) d).0 ≡ Less =
      ap (λ x. by_bytes x (get_or es (k + 1) d).0) (sym (get_or-map (λ e. e.0) es k d))
      ∙ ap (by_bytes (get_or (keys_of es) k d.0)) (sym (get_or-map (λ e. e.0) es (k + 1) d))
      ∙ Less-from_sorted by_bytes (keys_of es) k (k + 1) d.0 (sorted_keys es rise) next inside in
      ap is_lt (nat_list_cmp_total.antisymm (get_or es (k + 1) d).0 (get_or es k d).0 ∙ ap ordering_reverse below)

  hit : (place : ℕ) (e : List ℕ × T) → place < length es → HoldsAt (λ e. against e ≡ Equal) es place → e ≡ get_or es place e → value_of name es ≡ Some e.1
  hit place e inside equal there =
      let tie : by_bytes e.0 name ≡ Equal = ap against there ∙ equal e in
      let tests : is_at (by_bytes name) ≡ eq_by_cmp by_bytes e.0 = λ i x. is_eq (sym (nat_list_cmp_total.congr e.0 name x tie) i) in
      let here : slice_get es place ≡ Some e = slice_get-get_or es place e inside ∙ ap Some (sym there) in
      ap (λ test. lookup test es) tests
      ∙ lookup_from_place (eq_by_cmp_equiv nat_list_cmp_total) es place e.0 e.1 (IsDistinct-from_sorted by_bytes (keys_of es) (sorted_keys es rise)) here

  miss : (place : ℕ) → place ≤ length es → IsBinarySearchResult against es (Err place) → value_of name es ≡ None
  miss place inside parted =
      let (before, after) = parted (searchable_from_sorted nat_list_cmp_total (λ e. e.0) es name ordered) in
      lookup_at_gap nat_list_cmp_total name es place (sorted_keys es rise)
      (λ j e lt there. nat_list_cmp_total.antisymm name e.0 ∙ ap ordering_reverse (ap against (sym (get_or_from_slice_get es j e e there)) ∙ before j e (omega arith) lt))
      (λ e there. nat_list_cmp_total.antisymm name e.0 ∙ ap ordering_reverse (ap against (sym (get_or_from_slice_get es place e e there)) ∙ after place e (omega arith) (slice_get_within es place e there)))

pub named-hit : {T : Type 0} (es : List (List ℕ × T)) (name : List ℕ) (place : ℕ) (e : List ℕ × T) → is_by_name es ≡ true → place < length es
    → HoldsAt (λ e. by_bytes e.0 name ≡ Equal) es place → e ≡ get_or es place e → value_of name es ≡ Some e.1
named-hit es name place e rise inside equal there = hit es rise name place e inside equal there

pub named-miss : {T : Type 0} (es : List (List ℕ × T)) (name : List ℕ) (place : ℕ) → is_by_name es ≡ true → place ≤ length es
    → IsBinarySearchResult (λ e. by_bytes e.0 name) es (Err place) → value_of name es ≡ None
named-miss es name place rise inside parted = miss es rise name place inside parted
