-- There is no clash exactly where no listed version has two values of one name; else the first one is found.
use Rattle.std.proofs.Common.{◌≡◌, ℕ, Bool, true, false, cond, not, ◌&&◌, List, [], ◌∷◌, ◌++◌, map, filter, fold, find, Option, Some, None, option_map, refl, sym, ap, subst, ◌∙◌, inl, inr, append_assoc, append-nil}
use Rattle.std.specs.Cmp.{IsEquivalence, Equal-is, tied_itself}
use Rattle.std.specs.Cmp.Lexicographic.{nat_list_cmp_total, nat_list_eq_equiv}
use Rattle.std.specs.Str.{bytes_eq}
use Rattle.std.specs.List.{AllByRecursion, list_any}
use Rattle.std.specs.List.Sorted.{IsStrictlySortedBy}
use Rattle.std.specs.Map.{keys_of}
use Rattle.std.specs.Option.{unwrap_or}
use Rattle.std.specs.Ordering.{is_eq}
use Rattle.std.specs.declared.cmp.Ordering.TheVariants.{Less}
use Rattle.std.proofs.lemmas.Bool.{true≢false, and_parts, and_from, or_parts}
use Rattle.std.proofs.lemmas.List.Elements.{All-from_recursion, recursion_from_All, filter-append}
use Rattle.std.proofs.lemmas.Map.Lookups.{exact_bytes}
use Rattle.std.proofs.lemmas.Option.{none-some, same_Some}
use Rattle.jl_versions.specs.declared.version.Version.{Version}
use Rattle.package_tables.specs.Row.{holds, by_bytes, value_of}
use Rattle.package_tables.specs.RowLaws.{IsGiven}
use Rattle.compat_spec.specs.Ranges.{Ranged}
use Rattle.package_tables.specs.Clash.{same_id, same_ranges, joining, grouped, is_varied, groups, other_value, differing, or_later, Clashing, clash_at, clash_among}
use Rattle.package_tables.specs.ClashLaws.{Clashes, IsClear, speaks_of, IsFirstClash, NoClash, ClashIsFirst}
use Rattle.package_tables.specs.declared.package_rows.Entry.{Entry}
use Rattle.package_tables.specs.declared.package_rows.VersionRow.{VersionRow}
use Rattle.package_tables.proofs.Among.{Among, key_same, value_same, contains_among, among_contains, filter_only, filter_every, find_only, lookup_among}
use Rattle.package_tables.proofs.Ordered.{found-insert, sorted-insert, sorted_found, above_first, rise_after, not_both, not_itself}

-- ---- the entries of a name

some_filled : {X : Type 0} → List X → Option (List X)
some_filled [] = None
some_filled (x ∷ xs) = Some (x ∷ xs)

or_empty : {X : Type 0} (xs : List X) → unwrap_or (some_filled xs) [] ≡ xs
unfolding some_filled
or_empty [] = refl
or_empty (x ∷ xs) = refl

filled_snoc : {X : Type 0} (xs : List X) (x : X) → some_filled (xs ++ x ∷ []) ≡ Some (xs ++ x ∷ [])
unfolding some_filled
filled_snoc [] x = refl
filled_snoc (y ∷ xs) x = refl

filled_there : {X : Type 0} (xs : List X) (x : X) → Among x xs → some_filled xs ≡ Some xs
unfolding some_filled
filled_there [] x never = absurd never
filled_there (y ∷ ys) x m = refl

filled_is : {X : Type 0} (xs ys : List X) → some_filled xs ≡ Some ys → xs ≡ ys
unfolding some_filled
filled_is [] ys e = absurd (none-some ys e)
filled_is (x ∷ xs) ys e = same_Some (x ∷ xs) ys e

abbrev Groups : Type 0 → Type 0
Groups T = List (List ℕ × List (Entry T))

module _ {T : Type 0} where
  abbrev has_name : List ℕ → Entry T → Bool
  has_name q e = is_eq (by_bytes q e.name)

  abbrev of_name : List ℕ → List (Entry T) → List (Entry T)
  of_name q entries = filter (has_name q) entries

  -- one entry more
  joined-step : (q : List ℕ) (gs : Groups T) (seen : List (Entry T)) (e : Entry T) → ((k : List ℕ) → value_of k gs ≡ some_filled (of_name k seen)) → value_of q (joining gs e) ≡ some_filled (of_name q (seen ++ e ∷ []))
  joined-step q gs seen e known =
      found-insert by_bytes nat_list_cmp_total q e.name (unwrap_or (value_of e.name gs) [] ++ e ∷ []) gs
      ∙ (elim (has_name q e) as (λ b. has_name q e ≡ b → cond b (Some (unwrap_or (value_of e.name gs) [] ++ e ∷ [])) (value_of q gs) ≡ some_filled (of_name q seen ++ cond b (e ∷ []) [])) [
        | true ↦ λ same.
            let here : q ≡ e.name = exact_bytes q e.name ((Equal-is (by_bytes q e.name)).0 same) in
            ap (λ xs. Some (xs ++ e ∷ [])) (ap (λ o. unwrap_or o []) (known e.name) ∙ or_empty (of_name e.name seen) ∙ ap (λ k. of_name k seen) (sym here))
            ∙ sym (filled_snoc (of_name q seen) e)
        | false ↦ λ _. known q ∙ ap some_filled (sym (append-nil (of_name q seen)))
      ] refl)
      ∙ ap some_filled (sym (filter-append (has_name q) seen (e ∷ [])))

  joined-all : (rest seen : List (Entry T)) (gs : Groups T) → ((k : List ℕ) → value_of k gs ≡ some_filled (of_name k seen)) → (q : List ℕ) → value_of q (fold joining gs rest) ≡ some_filled (of_name q (seen ++ rest))
  joined-all [] seen gs known q = known q ∙ ap (λ es. some_filled (of_name q es)) (sym (append-nil seen))
  joined-all (e ∷ rest) seen gs known q =
      joined-all rest (seen ++ e ∷ []) (joining gs e) (λ k. joined-step k gs seen e known) q ∙ ap (λ es. some_filled (of_name q es)) (append_assoc seen (e ∷ []) rest)

  none_yet : (k : List ℕ) → value_of {T = List (Entry T)} k [] ≡ some_filled (of_name k [])
  unfolding some_filled
  none_yet k = refl

  -- the group of a name is the entries that have it
  value-grouped : (q : List ℕ) (entries : List (Entry T)) → value_of q (grouped entries) ≡ some_filled (of_name q entries)
  value-grouped q entries = joined-all entries [] [] none_yet q

  rising-all : (rest : List (Entry T)) (gs : Groups T) → IsStrictlySortedBy by_bytes (keys_of gs) → IsStrictlySortedBy by_bytes (keys_of (fold joining gs rest))
  rising-all [] gs rise = rise
  rising-all (e ∷ rest) gs rise = rising-all rest (joining gs e) (sorted-insert by_bytes nat_list_cmp_total e.name (unwrap_or (value_of e.name gs) [] ++ e ∷ []) gs rise)

  groups_rise : (entries : List (Entry T)) → IsStrictlySortedBy by_bytes (keys_of (grouped entries))
  unfolding IsStrictlySortedBy
  groups_rise entries = rising-all entries [] tt

  group_is : (name : List ℕ) (entries es : List (Entry T)) → Among (name, es) (grouped entries) → of_name name entries ≡ es
  group_is name entries es m =
      filled_is (of_name name entries) es (sym (value-grouped name entries) ∙ sorted_found by_bytes nat_list_cmp_total (grouped entries) name es (groups_rise entries) m)

  group_stands : (name : List ℕ) (entries : List (Entry T)) (e : Entry T) → Among e (of_name name entries) → Among (name, of_name name entries) (grouped entries)
  group_stands name entries e m =
      lookup_among by_bytes exact_bytes (grouped entries) name (of_name name entries) (value-grouped name entries ∙ filled_there (of_name name entries) e m)

-- ---- the first two that differ

or_later_none : {A : Type 0} (o later : Option A) → or_later o later ≡ None → (o ≡ None) × (later ≡ None)
or_later_none None later e = (refl, e)
or_later_none (Some x) later e = absurd (none-some x (sym e))

find_none : {X : Type 0} (p : X → Bool) (xs : List X) (x : X) → find p xs ≡ None → Among x xs → p x ≡ false
find_none p [] x e never = absurd never
find_none p (y ∷ ys) x e m =
    elim (p y) as (λ b. p y ≡ b → cond b (Some y) (find p ys) ≡ None → p x ≡ false) [
      | true ↦ λ _ some. absurd (none-some y (sym some))
      | false ↦ λ fails rest. elim m [ inl is ↦ ap p (sym is) ∙ fails | inr later ↦ find_none p ys x rest later ]
    ] refl e

none_find : {X : Type 0} (p : X → Bool) (xs : List X) → ((x : X) → Among x xs → p x ≡ false) → find p xs ≡ None
none_find p [] none = refl
none_find p (y ∷ ys) none = ap (λ b. cond b (Some y) (find p ys)) (none y (inl refl)) ∙ none_find p ys (λ x m. none x (inr m))

find-filter : {X : Type 0} (p q : X → Bool) (xs : List X) → find p (filter q xs) ≡ find (λ x. q x && p x) xs
find-filter p q [] = refl
find-filter p q (y ∷ ys) =
    elim (q y) as (λ b. find p (cond b (y ∷ filter q ys) (filter q ys)) ≡ cond (b && p y) (Some y) (find (λ x. q x && p x) ys)) [
      | true ↦ ap (cond (p y) (Some y)) (find-filter p q ys)
      | false ↦ find-filter p q ys
    ]

-- a test of two tests has both
same_not : (b : Bool) → not b ≡ false → b ≡ true
same_not true e = refl
same_not false e = absurd (true≢false e)

other_not : (b : Bool) → not b ≡ true → b ≡ false
other_not true e = absurd (true≢false (sym e))
other_not false e = refl

held_same : (h s : Bool) → (h && not s) ≡ false → h ≡ true → s ≡ true
held_same true s e holding = same_not s e
held_same false s e holding = absurd (true≢false (sym holding))

mapped_some : {A B : Type 0} (a : A) (o : Option B) (p : A × B) → option_map (λ e. (a, e)) o ≡ Some p → (a ≡ p.0) × (o ≡ Some p.1)
mapped_some {A} {B} a None p e = absurd (none-some p e)
mapped_some {A} {B} a (Some b) p e = let is : (a, b) ≡ p = same_Some {A = A × B} (a, b) p e in (λ i. (is i).0, λ i. Some (is i).1)

mapped_none : {A B : Type 0} (f : A → B) (o : Option A) → option_map f o ≡ None → o ≡ None
mapped_none f None e = refl
mapped_none f (Some a) e = absurd (none-some (f a) (sym e))

abbrev differs : {T : Type 0} → (T → T → Bool) → Version → Entry T → Entry T → Bool
differs same v first e = holds v e && not (same first.value e.value)

-- what the two that differ are
record Found {T : Type 0} (same : T → T → Bool) (v : Version) (entries : List (Entry T)) (p : Entry T × Entry T) : Type 0 where
  pub first : find (holds v) entries ≡ Some p.0
  pub other : find (differs same v p.0) entries ≡ Some p.1

-- the least name with two that differ
record Least {T : Type 0} (same : T → T → Bool) (v : Version) (gs : Groups T) (p : Entry T × Entry T) : Type 0 where
  pub name : List ℕ
  pub es : List (Entry T)
  pub stands : Among (name, es) gs
  pub found : differing same v es ≡ Some p
  pub below : (m : List ℕ) (fs : List (Entry T)) → Among (m, fs) gs → by_bytes m name ≡ Less → differing same v fs ≡ None

-- what a clash of a version is
record IsClashAt {T : Type 0} (same : T → T → Bool) (v : Version) (entries : List (Entry T)) (p : Entry T × Entry T) : Type 0 where
  pub least : (name : List ℕ) → Clashes same v entries name → by_bytes name p.0.name ≡ Less → ⊥
  pub first : find (speaks_of v p.0.name) entries ≡ Some p.0
  pub other : find (λ e. speaks_of v p.0.name e && not (same p.0.value e.value)) entries ≡ Some p.1

module _ {T : Type 0} (same : T → T → Bool) (alike : IsEquivalence same) (v : Version) where
  same_trans : (x y z : T) → same x y ≡ true → same x z ≡ true → same y z ≡ true
  same_trans x y z a b = sym (alike.congr x y z a) ∙ b

  differing_some : (entries : List (Entry T)) (p : Entry T × Entry T) → differing same v entries ≡ Some p → Found same v entries p
  differing_some [] p e = absurd (none-some p e)
  differing_some (f ∷ es) p e =
      elim (holds v f) as (λ b. holds v f ≡ b → cond b (option_map (λ o. (f, o)) (other_value same v f es)) (differing same v es) ≡ Some p → Found same v (f ∷ es) p) [
        | true ↦ λ holding some.
            let (is, found) = mapped_some f (other_value same v f es) p some in
            let itself : differs same v p.0 f ≡ false =
            ap (λ b. b && not (same p.0.value f.value)) holding ∙ ap (λ g. not (same g.value f.value)) (sym is) ∙ ap not (alike.refl f.value) in
            record {
              first = ap (λ b. cond b (Some f) (find (holds v) es)) holding ∙ ap (λ g. Some g) is;
              other = ap (λ b. cond b (Some f) (find (differs same v p.0) es)) itself ∙ ap (λ g. find (differs same v g) es) (sym is) ∙ found;
            }
        | false ↦ λ fails some.
            let rest = differing_some es p some in
            record {
              first = ap (λ b. cond b (Some f) (find (holds v) es)) fails ∙ rest.first;
              other = ap (λ b. cond (b && not (same p.0.value f.value)) (Some f) (find (differs same v p.0) es)) fails ∙ rest.other;
            }
      ] refl e

  -- without two that differ all that hold the version are alike
  differing_none : (entries : List (Entry T)) → differing same v entries ≡ None → (a b : Entry T) → Among a entries → Among b entries → holds v a ≡ true → holds v b ≡ true → same a.value b.value ≡ true
  differing_none [] e a b never _ _ _ = absurd never
  differing_none (f ∷ es) e a b ma mb ha hb =
      elim (holds v f) as (λ h. holds v f ≡ h → cond h (option_map (λ o. (f, o)) (other_value same v f es)) (differing same v es) ≡ None → same a.value b.value ≡ true) [
        | true ↦ λ _ none. same_trans f.value a.value b.value (as_first (mapped_none (λ o. (f, o)) (other_value same v f es) none) a ma ha) (as_first (mapped_none (λ o. (f, o)) (other_value same v f es) none) b mb hb)
        | false ↦ λ fails none. differing_none es none a b (later fails a ma ha) (later fails b mb hb) ha hb
      ] refl e
    where
      as_first : other_value same v f es ≡ None → (c : Entry T) → Among c (f ∷ es) → holds v c ≡ true → same f.value c.value ≡ true
      as_first none c (inl is) holding = ap (λ g. same f.value g.value) (sym is) ∙ alike.refl f.value
      as_first none c (inr m) holding = held_same (holds v c) (same f.value c.value) (find_none (differs same v f) es c none m) holding

      later : holds v f ≡ false → (c : Entry T) → Among c (f ∷ es) → holds v c ≡ true → Among c es
      later fails c (inl is) holding = absurd (true≢false (sym holding ∙ ap (holds v) (sym is) ∙ fails))
      later fails c (inr m) holding = m

  none_differing : (entries : List (Entry T)) → ((a b : Entry T) → Among a entries → Among b entries → holds v a ≡ true → holds v b ≡ true → same a.value b.value ≡ true) → differing same v entries ≡ None
  none_differing entries agree =
      elim (differing same v entries) as (λ o. differing same v entries ≡ o → o ≡ None) [
        | None ↦ λ _. refl
        | Some p ↦ λ some.
            let found = differing_some entries p some in
            let (a, holding) = find_only (holds v) entries p.0 found.first in
            let (b, differ) = find_only (differs same v p.0) entries p.1 found.other in
            let (holding', other) = and_parts (holds v p.1) (not (same p.0.value p.1.value)) differ in
            absurd (true≢false (sym (agree p.0 p.1 a b holding holding') ∙ other_not (same p.0.value p.1.value) other))
      ] refl

  -- a name without several values doesn't clash
  unvaried : (entries : List (Entry T)) → is_varied same entries ≡ false → differing same v entries ≡ None
  unvaried [] e = refl
  unvaried (f ∷ es) e = none_differing (f ∷ es) (λ a b ma mb _ _. same_trans f.value a.value b.value (as_first a ma) (as_first b mb))
    where
      among_same : (xs : List (Entry T)) → list_any (λ g. not (same f.value g.value)) xs ≡ false → (c : Entry T) → Among c xs → same f.value c.value ≡ true
      among_same [] none c never = absurd never
      among_same (x ∷ xs) none c m =
          let (here, rest) = or_parts (not (same f.value x.value)) (list_any (λ g. not (same f.value g.value)) xs) none in
          elim m [ inl is ↦ ap (λ g. same f.value g.value) (sym is) ∙ same_not (same f.value x.value) here | inr later ↦ among_same xs rest c later ]

      as_first : (c : Entry T) → Among c (f ∷ es) → same f.value c.value ≡ true
      as_first c (inl is) = ap (λ g. same f.value g.value) (sym is) ∙ alike.refl f.value
      as_first c (inr m) = among_same es e c m

  abbrev entries_in : Groups T → List (List (Entry T))
  entries_in gs = map (λ g. g.1) gs

  -- the names without several values may be left out
  clash_at-filter : (gs : List (List (Entry T))) → clash_at same v (filter (is_varied same) gs) ≡ clash_at same v gs
  clash_at-filter [] = refl
  clash_at-filter (es ∷ gs) =
      elim (is_varied same es) as (λ b. is_varied same es ≡ b → clash_at same v (cond b (es ∷ filter (is_varied same) gs) (filter (is_varied same) gs)) ≡ or_later (differing same v es) (clash_at same v gs)) [
        | true ↦ λ _. ap (or_later (differing same v es)) (clash_at-filter gs)
        | false ↦ λ one. clash_at-filter gs ∙ ap (λ o. or_later o (clash_at same v gs)) (sym (unvaried es one))
      ] refl

  clash_at_none : (gs : Groups T) → clash_at same v (entries_in gs) ≡ None → (name : List ℕ) (es : List (Entry T)) → Among (name, es) gs → differing same v es ≡ None
  clash_at_none [] e name es never = absurd never
  clash_at_none (g ∷ gs) e name es m =
      let (here, rest) = or_later_none (differing same v g.1) (clash_at same v (entries_in gs)) e in
      elim m [ inl is ↦ ap (differing same v) (sym (value_same is)) ∙ here | inr later ↦ clash_at_none gs rest name es later ]

  none_clash_at : (gs : Groups T) → ((name : List ℕ) (es : List (Entry T)) → Among (name, es) gs → differing same v es ≡ None) → clash_at same v (entries_in gs) ≡ None
  none_clash_at [] none = refl
  none_clash_at (g ∷ gs) none = ap (λ o. or_later o (clash_at same v (entries_in gs))) (none g.0 g.1 (inl refl)) ∙ none_clash_at gs (λ name es m. none name es (inr m))

  clash_at_some : (gs : Groups T) (p : Entry T × Entry T) → IsStrictlySortedBy by_bytes (keys_of gs) → clash_at same v (entries_in gs) ≡ Some p → Least same v gs p
  clash_at_some [] p rise e = absurd (none-some p e)
  clash_at_some (g ∷ gs) p rise e =
      elim (differing same v g.1) as (λ o. differing same v g.1 ≡ o → or_later o (clash_at same v (entries_in gs)) ≡ Some p → Least same v (g ∷ gs) p) [
        | None ↦ λ none some.
            let rest = clash_at_some gs p (rise_after by_bytes nat_list_cmp_total g gs rise) some in
            record {
              name = rest.name;
              es = rest.es;
              stands = inr rest.stands;
              found = rest.found;
              below = λ m fs there lt. elim there [ inl is ↦ ap (differing same v) (sym (value_same is)) ∙ none | inr later ↦ rest.below m fs later lt ];
            }
        | Some q ↦ λ here some. record {
          name = g.0;
          es = g.1;
          stands = inl refl;
          found = here ∙ some;
          below = λ m fs there lt. elim there [
            | inl is ↦ absurd (not_itself by_bytes nat_list_cmp_total g.0 (ap (λ k. by_bytes k g.0) (key_same is) ∙ lt))
            | inr later ↦ absurd (not_both by_bytes nat_list_cmp_total g.0 m (above_first by_bytes nat_list_cmp_total g gs m fs rise later) lt)
          ];
        }
      ] refl e

  -- ---- a version

  module _ (entries : List (Entry T)) where
    clash_here : clash_at same v (groups same entries) ≡ clash_at same v (entries_in (grouped entries))
    clash_here = clash_at-filter (entries_in (grouped entries))

    same_name : (name : List ℕ) (e : Entry T) → e.name ≡ name → has_name name e ≡ true
    same_name name e is = ap is_eq (ap (by_bytes name) is ∙ tied_itself nat_list_cmp_total name)

    given_in : (name : List ℕ) (value : T) (given : IsGiven v entries name value) → Among given.entry (of_name name entries)
    given_in name value given = filter_every (has_name name) entries given.entry (contains_among entries given.entry given.stands) (same_name name given.entry given.its_name)

    -- entries of one name without two that differ don't clash
    no_clash : (name : List ℕ) → differing same v (of_name name entries) ≡ None → Clashes same v entries name → ⊥
    no_clash name none clash =
        true≢false (sym (differing_none (of_name name entries) none clash.one_given.entry clash.other_given.entry (given_in name clash.one clash.one_given) (given_in name clash.other clash.other_given) clash.one_given.held clash.other_given.held)
        ∙ (λ i. same (clash.one_given.its_value i) (clash.other_given.its_value i)) ∙ clash.differ)

    -- an entry of the group of a name
    in_group : (name : List ℕ) (e : Entry T) → Among e (of_name name entries) → holds v e ≡ true → IsGiven v entries name e.value
    in_group name e m holding =
        let (there, has) = filter_only (has_name name) entries e m in
        record { entry = e; stands = among_contains entries e there; held = holding; its_name = sym (exact_bytes name e.name ((Equal-is (by_bytes name e.name)).0 has)); its_value = refl }

    found_clash : (name : List ℕ) (p : Entry T × Entry T) → Found same v (of_name name entries) p → Clashes same v entries name
    found_clash name p found =
        let (a, holding) = find_only (holds v) (of_name name entries) p.0 found.first in
        let (b, differ) = find_only (differs same v p.0) (of_name name entries) p.1 found.other in
        let (holding', other) = and_parts (holds v p.1) (not (same p.0.value p.1.value)) differ in
        record { one = p.0.value; other = p.1.value; one_given = in_group name p.0 a holding; other_given = in_group name p.1 b holding'; differ = other_not (same p.0.value p.1.value) other }

    none_at : clash_at same v (groups same entries) ≡ None → IsClear same entries v
    none_at none name clash =
        no_clash name (clash_at_none (grouped entries) (sym clash_here ∙ none) name (of_name name entries) (group_stands name entries clash.one_given.entry (given_in name clash.one clash.one_given))) clash

    at_none : IsClear same entries v → clash_at same v (groups same entries) ≡ None
    at_none clear = clash_here ∙ none_clash_at (grouped entries) (λ name es m. lone name es m (differing same v es) refl)
      where
        lone : (name : List ℕ) (es : List (Entry T)) → Among (name, es) (grouped entries) → (o : Option (Entry T × Entry T)) → differing same v es ≡ o → o ≡ None
        lone name es m None e = refl
        lone name es m (Some p) e = absurd (clear name (found_clash name p (subst (λ fs. Found same v fs p) (sym (group_is name entries es m)) (differing_some es p e))))

    regrouped : (a b c : Bool) → (a && (b && c)) ≡ ((a && b) && c)
    regrouped true b c = refl
    regrouped false b c = refl

    find_same : (f g : Entry T → Bool) (xs : List (Entry T)) → ((x : Entry T) → f x ≡ g x) → find f xs ≡ find g xs
    find_same f g [] h = refl
    find_same f g (x ∷ xs) h = λ i. cond (h x i) (Some x) (find_same f g xs h i)

    some_at : (p : Entry T × Entry T) → clash_at same v (groups same entries) ≡ Some p → IsClashAt same v entries p
    some_at p some =
        let it = clash_at_some (grouped entries) p (groups_rise entries) (sym clash_here ∙ some) in
        let es_are : of_name it.name entries ≡ it.es = group_is it.name entries it.es it.stands in
        let found : Found same v (of_name it.name entries) p = subst (λ fs. Found same v fs p) (sym es_are) (differing_some it.es p it.found) in
        let (there, holding) = find_only (holds v) (of_name it.name entries) p.0 found.first in
        let (stands, has) = filter_only (has_name it.name) entries p.0 there in
        let named_so : it.name ≡ p.0.name = exact_bytes it.name p.0.name ((Equal-is (by_bytes it.name p.0.name)).0 has) in
        record {
          least = λ name clash lt.
              no_clash name (it.below name (of_name name entries) (group_stands name entries clash.one_given.entry (given_in name clash.one clash.one_given)) (ap (by_bytes name) named_so ∙ lt)) clash;
          first = ap (λ k. find (speaks_of v k) entries) (sym named_so) ∙ sym (find-filter (holds v) (has_name it.name) entries) ∙ found.first;
          other = ap (λ k. find (λ e. speaks_of v k e && not (same p.0.value e.value)) entries) (sym named_so)
              ∙ find_same (λ e. speaks_of v it.name e && not (same p.0.value e.value)) (λ e. has_name it.name e && differs same v p.0 e) entries (λ e. sym (regrouped (has_name it.name e) (holds v e) (not (same p.0.value e.value))))
              ∙ sym (find-filter (differs same v p.0) (has_name it.name) entries) ∙ found.other;
        }

-- ---- the listed versions

module _ {T : Type 0} (same : T → T → Bool) (alike : IsEquivalence same) (entries : List (Entry T)) where
  abbrev clear_row : VersionRow → Type 0
  clear_row row = IsClear same entries row.version

  abbrev clash_of_row : VersionRow → Entry T × Entry T → Clashing T
  clash_of_row row p = (row.version, p.0, p.1)

  all_clear : (rows : List VersionRow) → clash_among same rows (groups same entries) ≡ None → AllByRecursion clear_row rows
  all_clear [] e = tt
  all_clear (row ∷ rows) e =
      let (here, rest) = or_later_none (option_map (clash_of_row row) (clash_at same row.version (groups same entries))) (clash_among same rows (groups same entries)) e in
      (none_at same alike row.version entries (mapped_none (clash_of_row row) (clash_at same row.version (groups same entries)) here), all_clear rows rest)

  clear_all : (rows : List VersionRow) → AllByRecursion clear_row rows → clash_among same rows (groups same entries) ≡ None
  clear_all [] clear = refl
  clear_all (row ∷ rows) clear =
      ap (λ o. or_later (option_map (clash_of_row row) o) (clash_among same rows (groups same entries))) (at_none same alike row.version entries clear.0) ∙ clear_all rows clear.1

  first_clash : (rows : List VersionRow) (clash : Clashing T) → clash_among same rows (groups same entries) ≡ Some clash → IsFirstClash same rows entries clash
  first_clash [] clash e = absurd (none-some clash e)
  first_clash (row ∷ rows) clash e =
      elim (clash_at same row.version (groups same entries)) as (λ o. clash_at same row.version (groups same entries) ≡ o → or_later (option_map (clash_of_row row) o) (clash_among same rows (groups same entries)) ≡ Some clash
      → IsFirstClash same (row ∷ rows) entries clash) [
        | None ↦ λ none some.
            let rest = first_clash rows clash some in
            record {
              earlier = row ∷ rest.earlier;
              row = rest.row;
              later = rest.later;
              listed = ap (λ rs. row ∷ rs) rest.listed;
              its_version = rest.its_version;
              clear = All-from_recursion clear_row (row ∷ rest.earlier) (none_at same alike row.version entries none, recursion_from_All clear_row rest.earlier rest.clear);
              least = rest.least;
              first = rest.first;
              other = rest.other;
            }
        | Some p ↦ λ here some.
            let is : (row.version, p.0, p.1) ≡ clash = same_Some {A = Clashing T} (row.version, p.0, p.1) clash some in
            let it = some_at same alike row.version entries p here in
            subst (IsFirstClash same (row ∷ rows) entries) is (record {
              earlier = [];
              row = row;
              later = rows;
              listed = refl;
              its_version = refl;
              clear = All-from_recursion clear_row [] tt;
              least = it.least;
              first = it.first;
              other = it.other;
            })
      ] refl e

pub no_clash_is_clear : {T : Type 0} (same : T → T → Bool) → IsEquivalence same → NoClash same
no_clash_is_clear same alike versions entries = (
  λ none. All-from_recursion (clear_row same alike entries) versions (all_clear same alike entries versions none),
  λ clear. clear_all same alike entries versions (recursion_from_All (clear_row same alike entries) versions clear),
)

pub clash_is_first : {T : Type 0} (same : T → T → Bool) → IsEquivalence same → ClashIsFirst same
clash_is_first same alike versions entries clash found = first_clash same alike entries versions clash found

-- ---- the two kinds of values

pub ids_alike : IsEquivalence same_id
ids_alike = nat_list_eq_equiv

ranges_refl : (rs : List Ranged) → same_ranges rs rs ≡ true
ranges_refl [] = refl
ranges_refl (r ∷ rs) = and_from _ _ (nat_list_eq_equiv.refl r.text) (ranges_refl rs)

ranges_symm : (rs ss : List Ranged) → same_ranges rs ss ≡ same_ranges ss rs
ranges_symm [] [] = refl
ranges_symm [] (s ∷ ss) = refl
ranges_symm (r ∷ rs) [] = refl
ranges_symm (r ∷ rs) (s ∷ ss) = λ i. nat_list_eq_equiv.symm r.text s.text i && ranges_symm rs ss i

ranges_congr : (rs ss ts : List Ranged) → same_ranges rs ss ≡ true → same_ranges rs ts ≡ same_ranges ss ts
ranges_congr [] [] ts e = refl
ranges_congr [] (s ∷ ss) ts e = absurd (true≢false (sym e))
ranges_congr (r ∷ rs) [] ts e = absurd (true≢false (sym e))
ranges_congr (r ∷ rs) (s ∷ ss) [] e = refl
ranges_congr (r ∷ rs) (s ∷ ss) (t ∷ ts) e =
    let (here, rest) = and_parts (bytes_eq r.text s.text) (same_ranges rs ss) e in
    λ i. nat_list_eq_equiv.congr r.text s.text t.text here i && ranges_congr rs ss ts rest i

pub ranges_alike : IsEquivalence same_ranges
ranges_alike = record { refl = ranges_refl; symm = ranges_symm; congr = ranges_congr }
