-- A name stands in a version's row with a value exactly where a section that holds the version gives it.
use Rattle.std.proofs.Common.{◌≡◌, ◌≢◌, ◌⊎◌, ℕ, Bool, true, false, not, ◌&&◌, List, [], ◌++◌, map, filter, Option, Some, None, codes, refl, sym, ap, subst, ◌∙◌, inl, inr}
use Rattle.std.specs.Prelude.{Contains}
use Rattle.std.specs.Ordering.{bool_cmp}
use Rattle.std.specs.Str.{bytes_eq}
use Rattle.std.specs.Cmp.Lexicographic.{nat_list_cmp_total}
use Rattle.std.proofs.lemmas.Bool.{true≢false, and_parts, and_from, or_cases, or_left, or_right}
use Rattle.std.proofs.lemmas.Map.Lookups.{CmpEqualImpliesEq, exact_bytes, exact_pairs}
use Rattle.std.proofs.lemmas.Slice.Eq.{bytes_eq-Decides}
use Rattle.jl_versions.specs.declared.version.Version.{Version}
use Rattle.compat_spec.specs.Listing.{Listing}
use Rattle.compat_spec.specs.Ranges.{Ranged}
use Rattle.package_tables.specs.Row.{holds, named, held, by_name, by_bytes, value_of, julia_id, is_package, deps_named, weak_named, is_absent, deps_of, weak_of, weak_or, is_some_package, counts, Spot, by_spot, spotted, counting, put_to, compat_of}
use Rattle.package_tables.specs.RowLaws.{IsGiven, HasOneValue, AreClear, IsNamed, DepsAreGiven, WeakAreGiven, CompatCounts, CompatIsGiven}
use Rattle.package_tables.specs.Sections.{bare}
use Rattle.package_tables.specs.declared.package_rows.Entry.{Entry}
use Rattle.package_tables.specs.declared.package_rows.PackageRows.{PackageRows}
use Rattle.package_tables.proofs.Among.{Among, key_same, value_same, contains_among, among_contains, filter_only, filter_every, map_only, map_every, append_only, append_left, append_right, Either, put_only, put_every, put_has, lookup_among, among_lookup}

-- ---- what the sections that hold a version give

module _ {T : Type 0} (v : Version) (entries : List (Entry T)) where
  held_given : (name : List ℕ) (value : T) → Among (name, value) (held v entries) → IsGiven v entries name value
  held_given name value m =
      let (e, stands, is) = map_only named (filter (holds v) entries) (name, value) m in
      let (there, holding) = filter_only (holds v) entries e stands in
      record { entry = e; stands = among_contains entries e there; held = holding; its_name = λ i. (is i).0; its_value = λ i. (is i).1 }

  given_held : (name : List ℕ) (value : T) → IsGiven v entries name value → Among (name, value) (held v entries)
  given_held name value given =
      subst (λ (p : List ℕ × T). Among p (held v entries)) (λ i. (given.its_name i, given.its_value i))
      (map_every named (filter (holds v) entries) given.entry (filter_every (holds v) entries given.entry (contains_among entries given.entry given.stands) given.held))

  either_given : (name : List ℕ) (value : T) → Either {X = T} by_bytes exact_bytes (held v entries) [] name value → IsGiven v entries name value
  either_given name value (inl m) = held_given name value m
  either_given name value (inr never) = absurd never

  -- a name of the version has a value that a section gives
  named_given : (name : List ℕ) (value : T) → Among (name, value) (by_name (held v entries)) → IsGiven v entries name value
  named_given name value m = either_given name value (put_only by_bytes exact_bytes [] (held v entries) name value m)

  given_named : HasOneValue v entries → (name : List ℕ) (value : T) → IsGiven v entries name value → Among (name, value) (by_name (held v entries))
  given_named one name value given =
      put_every by_bytes exact_bytes [] (held v entries) (λ q x y a b. one q x y (either_given q x a) (either_given q y b)) name value (inl (given_held name value given))

  -- a name that no section has isn't found
  absent_unnamed : (name : List ℕ) → is_absent (value_of name (by_name (held v entries))) ≡ true → IsNamed v entries name → ⊥
  absent_unnamed name absent (value, given) =
      let (x, stands) = put_has by_bytes exact_bytes [] (held v entries) name value (inl (given_held name value given)) in
      let (y, found) = among_lookup nat_list_cmp_total (by_name (held v entries)) name x stands in
      true≢false (sym absent ∙ ap is_absent found)

  unnamed_absent : (name : List ℕ) → (IsNamed v entries name → ⊥) → is_absent (value_of name (by_name (held v entries))) ≡ true
  unnamed_absent name none =
      elim (value_of name (by_name (held v entries))) as (λ o. value_of name (by_name (held v entries)) ≡ o → is_absent o ≡ true) [
        | None ↦ λ _. refl
        | Some value ↦ λ found. absurd (none (value, named_given name value (lookup_among by_bytes exact_bytes (by_name (held v entries)) name value found)))
      ] refl

  -- the value that is found is the one that is given
  found_given : HasOneValue v entries → (name : List ℕ) (value : T) → Among (name, value) (by_name (held v entries)) → value_of name (by_name (held v entries)) ≡ Some value
  found_given one name value m =
      let (x, found) = among_lookup nat_list_cmp_total (by_name (held v entries)) name value m in
      found ∙ ap (λ (w : T). Some w) (one name x value (named_given name x (lookup_among by_bytes exact_bytes (by_name (held v entries)) name x found)) (named_given name value m))

-- ---- Julia

passed_not : (b : Bool) → not b ≡ true → b ≡ true → ⊥
passed_not true e f = true≢false (sym e)
passed_not false e f = true≢false (sym f)

package_other : (id : List ℕ) → is_package id ≡ true → id ≢ julia_id
package_other id other_id same = passed_not (bytes_eq id julia_id) other_id ((bytes_eq-Decides id julia_id).1 same)

other_package : (id : List ℕ) → id ≢ julia_id → is_package id ≡ true
other_package id other =
    elim (bytes_eq id julia_id) as (λ b. bytes_eq id julia_id ≡ b → not b ≡ true) [
      | true ↦ λ same. absurd (other ((bytes_eq-Decides id julia_id).0 same))
      | false ↦ λ _. refl
    ] refl

-- ---- dependencies

module _ (rows : PackageRows) (v : Version) where
  abbrev is_strong : List ℕ × List ℕ → Bool
  is_strong p = is_absent (value_of p.0 (weak_named rows v)) && is_package p.1

  strong_only : (name id : List ℕ) → Contains (deps_of rows v) (name, id) → Among (name, id) (deps_named rows v) × (is_absent (value_of name (weak_named rows v)) ≡ true) × (is_package id ≡ true)
  strong_only name id m =
      let (stands, passes) = filter_only is_strong (deps_named rows v) (name, id) (contains_among (deps_of rows v) (name, id) m) in
      let (absent, other_id) = and_parts (is_absent (value_of name (weak_named rows v))) (is_package id) passes in
      (stands, absent, other_id)

  strong_every : (name id : List ℕ) → Among (name, id) (deps_named rows v) → is_absent (value_of name (weak_named rows v)) ≡ true → is_package id ≡ true → Contains (deps_of rows v) (name, id)
  strong_every name id stands absent other_id = among_contains (deps_of rows v) (name, id) (filter_every is_strong (deps_named rows v) (name, id) stands (and_from _ _ absent other_id))

  weak_only : (name id : List ℕ) → Contains (weak_of rows v) (name, id) → Among (name, id) (weak_named rows v) × (is_package id ≡ true)
  weak_only name id m = filter_only (λ (p : List ℕ × List ℕ). is_package p.1) (weak_named rows v) (name, id) (contains_among (weak_of rows v) (name, id) m)

  weak_every : (name id : List ℕ) → Among (name, id) (weak_named rows v) → is_package id ≡ true → Contains (weak_of rows v) (name, id)
  weak_every name id stands other_id = among_contains (weak_of rows v) (name, id) (filter_every (λ (p : List ℕ × List ℕ). is_package p.1) (weak_named rows v) (name, id) stands other_id)

pub deps_are_given : DepsAreGiven
deps_are_given rows v clear name id = (
  λ m. let (stands, absent, other_id) = strong_only rows v name id m in (named_given v rows.deps.items name id stands, absent_unnamed v rows.weakdeps.items name absent, package_other id other_id),
  λ h. strong_every rows v name id (given_named v rows.deps.items clear.deps name id h.0) (unnamed_absent v rows.weakdeps.items name h.1) (other_package id h.2),
)

pub weak_are_given : WeakAreGiven
weak_are_given rows v clear name id = (
  λ m. let (stands, other_id) = weak_only rows v name id m in (named_given v rows.weakdeps.items name id stands, package_other id other_id),
  λ h. weak_every rows v name id (given_named v rows.weakdeps.items clear.weakdeps name id h.0) (other_package id h.1),
)

-- ---- compat

absent_none : {T : Type 0} (o : Option T) → is_absent o ≡ true → o ≡ None
absent_none None e = refl
absent_none (Some value) e = absurd (true≢false (sym e))

module _ (rows : PackageRows) (v : Version) (clear : AreClear rows v) where
  abbrev does_count : List ℕ → Bool
  does_count name = counts (deps_named rows v) (weak_named rows v) name

  dependency : (name : List ℕ) (weak strong : Option (List ℕ)) → value_of name (weak_named rows v) ≡ weak → value_of name (deps_named rows v) ≡ strong → is_some_package (weak_or weak strong) ≡ true
      → (id : List ℕ) × (Contains (deps_of rows v) (name, id) ⊎ Contains (weak_of rows v) (name, id))
  dependency name (Some id) strong found other passes = (id, inr (weak_every rows v name id (lookup_among by_bytes exact_bytes (weak_named rows v) name id found) passes))
  dependency name None (Some id) absent found passes = (id, inl (strong_every rows v name id (lookup_among by_bytes exact_bytes (deps_named rows v) name id found) (ap is_absent absent) passes))
  dependency name None None absent none passes = absurd (true≢false (sym passes))

  counted : (name : List ℕ) → does_count name ≡ true → CompatCounts rows v name
  counted name passes =
      elim (or_cases (bytes_eq name (codes "julia")) (is_some_package (weak_or (value_of name (weak_named rows v)) (value_of name (deps_named rows v)))) passes) [
        | inl same ↦ inl ((bytes_eq-Decides name (codes "julia")).0 same)
        | inr is ↦ inr (dependency name _ _ refl refl is)
      ]

  counting_name : (name : List ℕ) → CompatCounts rows v name → does_count name ≡ true
  counting_name name (inl julia) = or_left _ _ ((bytes_eq-Decides name (codes "julia")).1 julia)
  counting_name name (inr (id, inl strong)) =
      let (stands, absent, other_id) = strong_only rows v name id strong in
      or_right (bytes_eq name (codes "julia")) _
      (ap (λ o. is_some_package (weak_or o (value_of name (deps_named rows v)))) (absent_none (value_of name (weak_named rows v)) absent)
      ∙ ap is_some_package (found_given v rows.deps.items clear.deps name id stands) ∙ other_id)
  counting_name name (inr (id, inr weak)) =
      let (stands, other_id) = weak_only rows v name id weak in
      or_right (bytes_eq name (codes "julia")) _
      (ap (λ o. is_some_package (weak_or o (value_of name (deps_named rows v)))) (found_given v rows.weakdeps.items clear.weakdeps name id stands) ∙ other_id)

  abbrev at_spot : Bool → List (Entry (Listing Ranged)) → List (Spot × List Ranged)
  at_spot kind entries = counting (deps_named rows v) (weak_named rows v) v kind entries

  abbrev does_count_in : Entry (Listing Ranged) → Bool
  does_count_in e = holds v e && does_count e.name

  spot_given : (kind : Bool) (entries : List (Entry (Listing Ranged))) (q : Spot) (ranges : List Ranged) → Among (q, ranges) (at_spot kind entries)
      → (q.1 ≡ kind) × (does_count q.0 ≡ true) × IsGiven v (map bare entries) q.0 ranges
  spot_given kind entries q ranges m =
      let (e, stands, is) = map_only (spotted kind) (filter does_count_in entries) (q, ranges) m in
      let (there, passes) = filter_only does_count_in entries e stands in
      let (holding, names) = and_parts (holds v e) (does_count e.name) passes in (
        sym (value_same (key_same is)),
        ap does_count (sym (key_same (key_same is))) ∙ names,
        record {
          entry = bare e;
          stands = among_contains (map bare entries) (bare e) (map_every bare entries e there);
          held = holding;
          its_name = key_same (key_same is);
          its_value = value_same is;
        },
      )

  given_spot : (kind : Bool) (entries : List (Entry (Listing Ranged))) (name : List ℕ) (ranges : List Ranged) → does_count name ≡ true → IsGiven v (map bare entries) name ranges
      → Among ((name, kind), ranges) (at_spot kind entries)
  given_spot kind entries name ranges passes given =
      let (e, stands, is) = map_only bare entries given.entry (contains_among (map bare entries) given.entry given.stands) in
      let same_name : e.name ≡ name = ap (λ (b : Entry (List Ranged)). b.name) is ∙ given.its_name in
      let same_ranges : e.value.items ≡ ranges = ap (λ (b : Entry (List Ranged)). b.value) is ∙ given.its_value in
      let holding : holds v e ≡ true = ap (λ (b : Entry (List Ranged)). holds v b) is ∙ given.held in
      subst (λ (p : Spot × List Ranged). Among p (at_spot kind entries)) (λ i. ((same_name i, kind), same_ranges i))
      (map_every (spotted kind) (filter does_count_in entries) e (filter_every does_count_in entries e stands (and_from _ _ holding (ap does_count same_name ∙ passes))))

  abbrev first : List (Spot × List Ranged)
  first = at_spot false rows.compat.items

  abbrev second : List (Spot × List Ranged)
  second = at_spot true rows.weakcompat.items

exact_bool : CmpEqualImpliesEq bool_cmp
exact_bool true true e = refl
exact_bool true false e = cc
exact_bool false true e = cc
exact_bool false false e = refl

exact_spot : CmpEqualImpliesEq by_spot
exact_spot = exact_pairs by_bytes bool_cmp exact_bytes exact_bool

module _ (rows : PackageRows) (v : Version) (clear : AreClear rows v) where
  abbrev all_spots : List (Spot × List Ranged)
  all_spots = first rows v clear ++ second rows v clear

  one_range : (q : Spot) (x y : List Ranged) → Among (q, x) all_spots → Among (q, y) all_spots → x ≡ y
  one_range q x y a b =
      elim (append_only (first rows v clear) (second rows v clear) (q, x) a) [
        | inl a1 ↦ elim (append_only (first rows v clear) (second rows v clear) (q, y) b) [
          | inl b1 ↦ clear.compat q.0 x y (spot_given rows v clear false rows.compat.items q x a1).2 (spot_given rows v clear false rows.compat.items q y b1).2
          | inr b2 ↦ absurd (true≢false (sym (spot_given rows v clear true rows.weakcompat.items q y b2).0 ∙ (spot_given rows v clear false rows.compat.items q x a1).0))
        ]
        | inr a2 ↦ elim (append_only (first rows v clear) (second rows v clear) (q, y) b) [
          | inl b1 ↦ absurd (true≢false (sym (spot_given rows v clear true rows.weakcompat.items q x a2).0 ∙ (spot_given rows v clear false rows.compat.items q y b1).0))
          | inr b2 ↦ clear.weakcompat q.0 x y (spot_given rows v clear true rows.weakcompat.items q x a2).2 (spot_given rows v clear true rows.weakcompat.items q y b2).2
        ]
      ]

  was_put : (q : Spot) (x : List Ranged) → Either {X = List Ranged} by_spot exact_spot all_spots [] q x → Among (q, x) all_spots
  was_put q x (inl m) = m
  was_put q x (inr never) = absurd never

  compat_only : (name : List ℕ) (ranges : List Ranged) → Among (name, ranges) (compat_of rows v)
      → CompatCounts rows v name × (IsGiven v (map bare rows.compat.items) name ranges ⊎ IsGiven v (map bare rows.weakcompat.items) name ranges)
  compat_only name ranges m =
      let (p, stands, is) = map_only (λ (p : Spot × List Ranged). (p.0.0, p.1)) (put_to by_spot [] all_spots) (name, ranges) m in
      subst (λ (r : List ℕ × List Ranged). CompatCounts rows v r.0 × (IsGiven v (map bare rows.compat.items) r.0 r.1 ⊎ IsGiven v (map bare rows.weakcompat.items) r.0 r.1)) is
      (elim (append_only (first rows v clear) (second rows v clear) p (was_put p.0 p.1 (put_only by_spot exact_spot [] all_spots p.0 p.1 stands))) [
        | inl a ↦ let (kind, counting_there, given) = spot_given rows v clear false rows.compat.items p.0 p.1 a in (counted rows v clear p.0.0 counting_there, inl given)
        | inr b ↦ let (kind, counting_there, given) = spot_given rows v clear true rows.weakcompat.items p.0 p.1 b in (counted rows v clear p.0.0 counting_there, inr given)
      ])

  put_there : (kind : Bool) (name : List ℕ) (ranges : List Ranged) → Among ((name, kind), ranges) all_spots → Among (name, ranges) (compat_of rows v)
  put_there kind name ranges m =
      map_every (λ (p : Spot × List Ranged). (p.0.0, p.1)) (put_to by_spot [] all_spots) ((name, kind), ranges)
      (put_every by_spot exact_spot [] all_spots (λ q x y a b. one_range q x y (was_put q x a) (was_put q y b)) (name, kind) ranges (inl m))

  compat_every : (name : List ℕ) (ranges : List Ranged) → CompatCounts rows v name
      → IsGiven v (map bare rows.compat.items) name ranges ⊎ IsGiven v (map bare rows.weakcompat.items) name ranges → Among (name, ranges) (compat_of rows v)
  compat_every name ranges does (inl given) =
      put_there false name ranges (append_left (first rows v clear) (second rows v clear) ((name, false), ranges) (given_spot rows v clear false rows.compat.items name ranges (counting_name rows v clear name does) given))
  compat_every name ranges does (inr given) =
      put_there true name ranges (append_right (first rows v clear) (second rows v clear) ((name, true), ranges) (given_spot rows v clear true rows.weakcompat.items name ranges (counting_name rows v clear name does) given))

pub compat_is_given : CompatIsGiven
compat_is_given rows v clear name ranges = (
  λ m. compat_only rows v clear name ranges (contains_among (compat_of rows v) (name, ranges) m),
  λ h. among_contains (compat_of rows v) (name, ranges) (compat_every rows v clear name ranges h.0 h.1),
)
