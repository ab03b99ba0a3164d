-- Fixed packages stay in the order of their identifiers where one is put at its place, or taken out.
use Rattle.std.proofs.Common.{◌≡◌, ℕ, Bool, true, false, not, cond, List, [], ◌∷◌, ◌++◌, map, filter, Less, Equal, Greater, refl, sym, ap, ◌∙◌, subst}
use Rattle.std.proofs.lemmas.List.{map-append}
use Rattle.std.proofs.lemmas.List.Kept.{IsStrictlySortedBy-filter}
use Rattle.std.specs.declared.cmp.Ordering.{Ordering}
use Rattle.std.specs.Ordering.{nat_cmp, is_lt, is_gt, ordering_reverse}
use Rattle.std.specs.Cmp.Lexicographic.{slice_cmp, nat_list_cmp_total}
use Rattle.std.specs.List.{AllByRecursion}
use Rattle.std.specs.List.Sorted.{IsStrictlySortedBy}
use Rattle.std.specs.Str.{bytes_eq}
use Rattle.offer_terms.specs.ById.{AreRising}
use Rattle.offer_terms.specs.Demanded.{FixedSaid, fixed_said}
use Rattle.offer_terms.specs.declared.fixed.Fixed.{Fixed}
use Rattle.project_changes.specs.Fixing.{with_fixed, without_fixed, is_before, is_behind}

abbrev c : List ℕ → List ℕ → Ordering
c = slice_cmp nat_cmp

kept-by : {X : Type 0} (P : X → Type 0) (b : Bool) (x : X) (more : List X) → P x → AllByRecursion P more → AllByRecursion P (cond b (x ∷ more) more)
kept-by P true x more here rest = (here, rest)
kept-by P false x more here rest = rest

all-kept : {X : Type 0} (P : X → Type 0) (p : X → Bool) (xs : List X) → AllByRecursion P xs → AllByRecursion P (filter p xs)
all-kept P p [] all = tt
all-kept P p (x ∷ xs) all = kept-by P (p x) x (filter p xs) all.0 (all-kept P p xs all.1)

all-joined : {X : Type 0} (P : X → Type 0) (xs ys : List X) → AllByRecursion P xs → AllByRecursion P ys → AllByRecursion P (xs ++ ys)
all-joined P [] ys front back = back
all-joined P (x ∷ xs) ys front back = (front.0, all-joined P xs ys front.1 back)

turned : (x y : List ℕ) (o : Ordering) → c x y ≡ o → c y x ≡ ordering_reverse o
turned x y o e = nat_list_cmp_total.antisymm y x ∙ ap ordering_reverse e

module _ (id : List ℕ) where
  abbrev before : List ℕ → Bool
  before x = is_lt (c x id)

  abbrev behind : List ℕ → Bool
  behind x = is_gt (c x id)

  all-behind : (xs : List (List ℕ)) → AllByRecursion (λ y. c id y ≡ Less) (filter behind xs)
  all-behind [] = tt
  all-behind (x ∷ xs) = by (c x id) refl (all-behind xs)
    where
      by : (o : Ordering) → c x id ≡ o → AllByRecursion (λ y. c id y ≡ Less) (filter behind xs) → AllByRecursion (λ y. c id y ≡ Less) (cond (is_gt o) (x ∷ filter behind xs) (filter behind xs))
      by Less e more = more
      by Equal e more = more
      by Greater e more = (turned x id Greater e, more)

  none-before : (x : List ℕ) (xs : List (List ℕ)) → c id x ≡ Less → AllByRecursion (λ y. c x y ≡ Less) xs → filter before xs ≡ []
  none-before x [] above all = refl
  none-before x (y ∷ ys) above all =
      let past : c y id ≡ Greater = turned id y Less (nat_list_cmp_total.trans id x y above all.0) in
      ap (λ o. cond (is_lt o) (y ∷ filter before ys) (filter before ys)) past ∙ none-before x ys above all.1

  pub rising-with : (xs : List (List ℕ)) → AreRising xs → AreRising (filter before xs ++ id ∷ filter behind xs)
  unfolding IsStrictlySortedBy
  rising-with [] rise = (tt, tt)
  rising-with (x ∷ xs) rise = by (c x id) refl (rising-with xs rise.1)
    where
      by : (o : Ordering) → c x id ≡ o → AreRising (filter before xs ++ id ∷ filter behind xs)
          → AreRising (cond (is_lt o) (x ∷ filter before xs) (filter before xs) ++ id ∷ cond (is_gt o) (x ∷ filter behind xs) (filter behind xs))
      by Less e more =
          (all-joined (λ y. c x y ≡ Less) (filter before xs) (id ∷ filter behind xs) (all-kept (λ y. c x y ≡ Less) before xs rise.0) (e, all-kept (λ y. c x y ≡ Less) behind xs rise.0), more)
      by Equal e more = more
      by Greater e more =
          let above : c id x ≡ Less = turned x id Greater e in
          subst (λ front. AreRising (front ++ id ∷ x ∷ filter behind xs)) (sym (none-before x xs above rise.0))
          ((above, all-behind xs), (all-kept (λ y. c x y ≡ Less) behind xs rise.0, IsStrictlySortedBy-filter c behind xs rise.1))

pub ids-said : (items : List Fixed) → map (λ it. it.uuid) (map fixed_said items) ≡ map (λ it. it.uuid) items
ids-said [] = refl
ids-said (x ∷ xs) = ap (λ ids. x.uuid ∷ ids) (ids-said xs)

kept-one : (b : Bool) (x : FixedSaid) (more : List FixedSaid) (ids : List (List ℕ)) → map (λ it. it.uuid) more ≡ ids
    → map (λ it. it.uuid) (cond b (x ∷ more) more) ≡ cond b (x.uuid ∷ ids) ids
kept-one true x more ids e = ap (λ ids. x.uuid ∷ ids) e
kept-one false x more ids e = e

kept-ids : (p : List ℕ → Bool) (fixed : List FixedSaid) → map (λ it. it.uuid) (filter (λ it. p it.uuid) fixed) ≡ filter p (map (λ it. it.uuid) fixed)
kept-ids p [] = refl
kept-ids p (x ∷ xs) = kept-one (p x.uuid) x (filter (λ it. p it.uuid) xs) (filter p (map (λ it. it.uuid) xs)) (kept-ids p xs)

-- the packages that were copied
module _ (items copies : List Fixed) (rise : AreRising (map (λ it. it.uuid) items)) where
  abbrev ids : List (List ℕ)
  ids = map (λ it. it.uuid) items

  kept : (p : List ℕ → Bool) → map (λ it. it.uuid) (filter (λ it. p it.uuid) (map fixed_said items)) ≡ filter p ids
  kept p = kept-ids p (map fixed_said items) ∙ ap (filter p) (ids-said items)

  -- all of them
  pub copies-rise : map fixed_said copies ≡ map fixed_said items → AreRising (map (λ it. it.uuid) copies)
  copies-rise same = subst AreRising (sym (ids-said items) ∙ ap (map (λ it. it.uuid)) (sym same) ∙ ids-said copies) rise

  -- without the one of an identifier
  pub without-rises : (id : List ℕ) → map fixed_said copies ≡ without_fixed id (map fixed_said items) → AreRising (map (λ it. it.uuid) copies)
  without-rises id same =
      subst AreRising (sym (kept (λ x. not (bytes_eq id x))) ∙ ap (map (λ it. it.uuid)) (sym same) ∙ ids-said copies)
      (IsStrictlySortedBy-filter c (λ x. not (bytes_eq id x)) ids rise)

  -- with one more, in place of the one of its identifier
  pub with-rises : (given : FixedSaid) → map fixed_said copies ≡ with_fixed given (map fixed_said items) → AreRising (map (λ it. it.uuid) copies)
  with-rises given same =
      let front = filter (is_before given.uuid) (map fixed_said items) in
      let back = filter (is_behind given.uuid) (map fixed_said items) in
      let parts : map (λ it. it.uuid) (front ++ given ∷ back) ≡ filter (before given.uuid) ids ++ given.uuid ∷ filter (behind given.uuid) ids
      = map-append (λ it. it.uuid) front (given ∷ back) ∙ (λ i. kept (before given.uuid) i ++ given.uuid ∷ kept (behind given.uuid) i) in
      subst AreRising (sym parts ∙ ap (map (λ it. it.uuid)) (sym same) ∙ ids-said copies) (rising-with given.uuid ids rise)
