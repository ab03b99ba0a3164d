-- The laws of a book that was gathered.
use Rattle.std.proofs.Common.{◌≡◌, ℕ, zero, suc, ◌+◌, ◌<◌, ◌≤◌, Bool, true, false, cond, ◌||◌, List, [], ◌∷◌, ◌++◌, map, length, take, get_or, Option, Some, None, is_some, bytes_eq, option_map, Result, Ok, Err, ◌⊎◌, inl, inr, refl, sym, ap, ◌∙◌, subst, arith, true≢false}
use Rattle.std.specs.Prelude.{slice_get, find, Contains, IsSome}
use Rattle.std.specs.List.{list_any, flat_map, AllByRecursion}
use Rattle.std.specs.Map.{keys_of}
use Rattle.std.specs.Option.{option_and_then}
use Rattle.std.proofs.lemmas.List.Folds.{list_any-append}
use Rattle.std.proofs.lemmas.Map.Entries.{lookup-filter-keys}
use Rattle.std.proofs.lemmas.Option.{none-some, same_Some, slice_get-map}
use Rattle.pkg_world.specs.Tree.{Files}
use Rattle.registry_tables.specs.Answers.{Read}
use Rattle.offer_terms.specs.Offered.{Text, Id, Offering, Offers, Selected, version_in, is_of, offer_at, taken, cut_to}
use Rattle.offer_terms.specs.Booked.{Packed, ids_of, is_for, number_of, offers_of, book_offers}
use Rattle.offer_terms.specs.Demanded.{Wanted}
use Rattle.offer_terms.specs.Feasible.{IsFeasible, IsValid, CanRaise, Spreads}
use Rattle.offer_terms.specs.Laws.{OfferAlike, IsClosedSet}
use Rattle.offer_terms.proofs.Offers.{same_offers, same_offers_valid, same_offers_raise, cut_stays_feasible}
use Rattle.jl_versions.specs.declared.version.Version.{Version}
use Rattle.offer_catalog.specs.SaidCatalog.{SaidCatalog}
use Rattle.offer_book.specs.Scope.{Scope, scope}
use Rattle.offer_book.specs.AllOffers.{Found, found_in, all_offers, has_source, offers_found}
use Rattle.offer_book.specs.Numbers.{Mentions, Reached, mention_all, firsts, unnamed, start, deps_offered, packed_as, walk, begun}
use Rattle.offer_book.specs.Gathered.{BookRefusal, unusable, unknown, too_many, most_packages, unknown_root, passes, within_limit, with_sources, book_of, reached_in, gathered}
use Rattle.offer_book.specs.Laws.{is_in, IsClosed, IsReached, BookOffersAreAll, BookTellsSources, NumbersAreReached, NumbersGoByMention, FeasibleInBook, FeasibleOverAll, ValidAlike, RaisedAlike}
use Rattle.offer_book.specs.Made.{reaching}
use Rattle.offer_book.proofs.MentionLemmas.{has, lists, same_id, own_id, or_left, or_right, or_cases, mentions-have}
use Rattle.offer_book.proofs.StepLemmas.{same_ok, not_ok, any-for, number-has}
use Rattle.offer_book.proofs.SourceLemmas.{source-agrees}
use Rattle.offer_book.proofs.WalkLemmas.{deps_in, IsReadBy, IsClosedBy, IsWalked, walked-walk, walked-begun, walk-ends, offers-packed}

-- ---- tests and members

contains-head : {X : Type 0} (x : X) (xs : List X) → Contains (x ∷ xs) x
contains-head x xs = (zero, omega arith, refl)

contains-tail : {X : Type 0} (y : X) (xs : List X) (x : X) → Contains xs x → Contains (y ∷ xs) x
contains-tail y xs x (k, within, there) = (suc k, omega (arith, within), there)

found-by : {X : Type 0} (p : X → Bool) (xs : List X) → list_any p xs ≡ true → (x : X) × (Contains xs x) × (p x ≡ true)
found-by {X} p [] none = absurd (true≢false (sym none))
found-by {X} p (x ∷ xs) any =
    elim (p x) as (λ b. p x ≡ b → (b || list_any p xs) ≡ true → (y : X) × (Contains (x ∷ xs) y) × (p y ≡ true)) [
      | true ↦ λ here _. (x, contains-head x xs, here)
      | false ↦ λ _ more. let (y, inside, passes) = found-by p xs more in (y, contains-tail x xs y inside, passes)
    ] refl any

passed-by : {X : Type 0} (p : X → Bool) (xs : List X) (x : X) → Contains xs x → p x ≡ true → list_any p xs ≡ true
passed-by p [] x (k, within, there) is = absurd (omega (arith, within))
passed-by p (y ∷ ys) x (zero, within, there) is = or_left (p y) (list_any p ys) (ap p there ∙ is)
passed-by p (y ∷ ys) x (suc k, within, there) is = or_right (p y) (list_any p ys) (passed-by p ys x (k, omega (arith, within), there) is)

find-inside : {X : Type 0} (p : X → Bool) (xs : List X) (x : X) → find p xs ≡ Some x → Contains xs x
find-inside p [] x none = absurd (none-some x none)
find-inside p (y ∷ ys) x found =
    elim (p y) as (λ b. cond b (Some y) (find p ys) ≡ Some x → Contains (y ∷ ys) x) [
      | true ↦ λ here. subst (Contains (y ∷ ys)) (same_Some y x here) (contains-head y ys)
      | false ↦ λ later. contains-tail y ys x (find-inside p ys x later)
    ] found

all-inside : {X : Type 0} (P : X → Type 0) (xs : List X) (x : X) → AllByRecursion P xs → Contains xs x → P x
all-inside P [] x all (k, within, there) = absurd (omega (arith, within))
all-inside P (y ∷ ys) x all (zero, within, there) = subst P there all.0
all-inside P (y ∷ ys) x all (suc k, within, there) = all-inside P ys x all.1 (k, omega (arith, within), there)

any-flat : {X : Type 0} (f : X → List (Text × Id)) (xs : List X) (u : Id) → lists (flat_map f xs) u ≡ list_any (λ x. lists (f x) u) xs
any-flat f [] u = refl
any-flat f (x ∷ xs) u = list_any-append (λ d. bytes_eq u d.1) (f x) (flat_map f xs) ∙ ap (λ b. lists (f x) u || b) (any-flat f xs u)

lists-own : (list : List (Text × Id)) (d : Text × Id) → Contains list d → lists list d.1 ≡ true
lists-own list d inside = passed-by (λ e. bytes_eq d.1 e.1) list d inside (own_id d.1)

any-unnamed : (extra : List Id) (u : Id) → lists (map unnamed extra) u ≡ has extra u
any-unnamed [] u = refl
any-unnamed (e ∷ es) u = ap (λ b. bytes_eq u e || b) (any-unnamed es u)

-- ---- what was gathered

pub record IsBook (files : Files) (catalog : SaidCatalog) (scope : Scope) (extra : List Id) (book : List Packed) : Type 0 where
  pub mentions : Mentions
  pub walked : IsWalked (found_in files catalog scope) (start scope extra) (reaching mentions book)
  pub whole : ids_of book ≡ keys_of mentions

take-all : (ids : List Id) (n : ℕ) → slice_get ids n ≡ None → take n ids ≡ ids
take-all [] zero none = refl
take-all [] (suc n) none = refl
take-all (k ∷ ks) zero none = absurd (none-some k (sym none))
take-all (k ∷ ks) (suc n) none = ap (λ t. k ∷ t) (take-all ks n none)

none_there : {X : Type 0} (o : Option X) → is_some o ≡ false → o ≡ None
none_there None none = refl
none_there (Some x) none = absurd (true≢false none)

source-packed : (m : Id × Text) (found : Option Found) → (packed_as m found).has_source ≡ is_some found
source-packed m None = refl
source-packed m (Some one) = refl

module _ (files : Files) (catalog : SaidCatalog) (scope : Scope) (extra : List Id) (book : List Packed) where
  book-whole : (last : Reached) → walk (found_in files catalog scope) most_packages (begun scope extra) ≡ Ok last → passes last ≡ false → last.book ≡ book → IsBook files catalog scope extra book
  book-whole last walks few same =
      let walked = walked-walk (found_in files catalog scope) (start scope extra) most_packages (begun scope extra) last walks (walked-begun (found_in files catalog scope) (start scope extra)) in
      let bound : slice_get last.mentions most_packages ≡ None = none_there (slice_get last.mentions most_packages) few in
      let past : slice_get last.mentions (length last.book) ≡ None = elim (walk-ends (found_in files catalog scope) most_packages (begun scope extra) last walks) [
        | inl none ↦ none
        | inr count ↦ let counted : length last.book ≡ 0 + most_packages = count in let all : length last.book ≡ most_packages = omega (arith, counted) in ap (slice_get last.mentions) all ∙ bound
      ] in
      let none : slice_get (keys_of last.mentions) (length last.book) ≡ None = slice_get-map (λ e. e.0) last.mentions (length last.book) ∙ ap (option_map (λ e. e.0)) past in
      record {
        mentions = last.mentions;
        walked = subst (λ b. IsWalked (found_in files catalog scope) (start scope extra) (reaching last.mentions b)) same walked;
        whole = ap ids_of (sym same) ∙ walked.front ∙ take-all (keys_of last.mentions) (length last.book) none;
      }

  book-limit : (last : Reached) (more : Bool) → walk (found_in files catalog scope) most_packages (begun scope extra) ≡ Ok last → passes last ≡ more → within_limit last more ≡ Ok book → IsBook files catalog scope extra book
  book-limit last true walks many is = absurd (not_ok too_many book is)
  book-limit last false walks few is = book-whole last walks few (same_ok last.book book is)

  book-sources : (last : Reached) (unknown : Option (Text × Id)) → walk (found_in files catalog scope) most_packages (begun scope extra) ≡ Ok last → with_sources last unknown ≡ Ok book → IsBook files catalog scope extra book
  book-sources last None walks is = book-limit last (passes last) walks refl is
  book-sources last (Some root) walks is = absurd (not_ok (unknown root.1) book is)

  book-read : (answer : Read Reached) → walk (found_in files catalog scope) most_packages (begun scope extra) ≡ answer → book_of catalog scope answer ≡ Ok book → IsBook files catalog scope extra book
  book-read (Ok last) walks is = book-sources last (unknown_root catalog scope) walks is
  book-read (Err refused) walks is = absurd (not_ok (unusable refused) book is)

  pub is-book : gathered files catalog scope extra ≡ Ok book → IsBook files catalog scope extra book
  is-book is = book-read (reached_in files catalog scope extra) refl is

  -- ---- the numbers

  in-lists : IsBook files catalog scope extra book → (u : Id) → is_in book u ≡ lists (start scope extra ++ deps_in book) u
  in-lists made u =
      number-has book u ∙ ap (λ ids. has ids u) (made.whole ∙ ap keys_of made.walked.order) ∙ mentions-have (start scope extra ++ deps_in book) [] u

  in-mentions : (made : IsBook files catalog scope extra book) (u : Id) → is_in book u ≡ has (keys_of made.mentions) u
  in-mentions made u = number-has book u ∙ ap (λ ids. has ids u) made.whole

  -- ---- the offers

  said-offers : (it : Packed) → IsReadBy (found_in files catalog scope) it → it.offers ≡ all_offers files catalog scope it.uuid
  said-offers it by = ap (λ (one : Packed). one.offers) by.is ∙ offers-packed (it.uuid, by.name) by.found ∙ ap offers_found (sym by.answer)

  offers-in : (some : List Packed) (u : Id) → AllByRecursion (IsReadBy (found_in files catalog scope)) some → list_any (is_for u) some ≡ true → offers_of (find (is_for u) some) ≡ all_offers files catalog scope u
  offers-in [] u all none = absurd (true≢false (sym none))
  offers-in (it ∷ more) u all any =
      elim (bytes_eq u it.uuid) as (λ b. bytes_eq u it.uuid ≡ b → (b || list_any (is_for u) more) ≡ true → offers_of (cond b (Some it) (find (is_for u) more)) ≡ all_offers files catalog scope u) [
        | true ↦ λ same _. said-offers it all.0 ∙ ap (all_offers files catalog scope) (sym (same_id u it.uuid same))
        | false ↦ λ _ later. offers-in more u all.1 later
      ] refl any

  numbered-any : (some : List Packed) (u : Id) → is_in some u ≡ list_any (is_for u) some
  numbered-any some u = number-has some u ∙ sym (any-for some u)

  pub book-offers : IsBook files catalog scope extra book → (u : Id) → is_in book u ≡ true → book_offers book u ≡ all_offers files catalog scope u
  book-offers made u inside = offers-in book u made.walked.each (sym (numbered-any book u) ∙ inside)

  -- a package without a number has no offer in the book
  nothing-in : (some : List Packed) (u : Id) → list_any (is_for u) some ≡ false → offers_of (find (is_for u) some) ≡ []
  nothing-in [] u none = refl
  nothing-in (it ∷ more) u none =
      elim (bytes_eq u it.uuid) as (λ b. (b || list_any (is_for u) more) ≡ false → offers_of (cond b (Some it) (find (is_for u) more)) ≡ []) [
        | true ↦ λ wrong. absurd (true≢false wrong)
        | false ↦ λ later. nothing-in more u later
      ] none

  -- what offers of a numbered package depend on has a number
  needs-in : IsBook files catalog scope extra book → (u v : Id) → is_in book u ≡ true → lists (deps_offered (all_offers files catalog scope u)) v ≡ true → is_in book v ≡ true
  needs-in made u v inside dep =
      let (it, numbered, passes) = found-by (is_for u) book (sym (numbered-any book u) ∙ inside) in
      let by = all-inside (IsReadBy (found_in files catalog scope)) book it made.walked.each numbered in
      let said : it.offers ≡ all_offers files catalog scope u = said-offers it by ∙ ap (all_offers files catalog scope) (sym (same_id u it.uuid passes)) in
      let here : lists (deps_offered it.offers) v ≡ true = ap (λ offers. lists (deps_offered offers) v) said ∙ dep in
      let listed : lists (deps_in book) v ≡ true =
      any-flat (λ (one : Packed). deps_offered one.offers) book v ∙ passed-by (λ (one : Packed). lists (deps_offered one.offers) v) book it numbered here in
      in-lists made v ∙ list_any-append (λ d. bytes_eq v d.1) (start scope extra) (deps_in book) ∙ or_right (lists (start scope extra) v) (lists (deps_in book) v) listed

  start-in : IsBook files catalog scope extra book → (u : Id) → lists (start scope extra) u ≡ true → is_in book u ≡ true
  start-in made u first =
      in-lists made u ∙ list_any-append (λ d. bytes_eq u d.1) (start scope extra) (deps_in book) ∙ or_left (lists (start scope extra) u) (lists (deps_in book) u) first

  dep-listed : (offers : List Offering) (x : Offering) (d : Text × Id) → Contains offers x → Contains x.deps d → lists (deps_offered offers) d.1 ≡ true
  dep-listed offers x d offered dep = any-flat (λ (one : Offering). one.deps) offers d.1 ∙ passed-by (λ (one : Offering). lists one.deps d.1) offers x offered (lists-own x.deps d dep)

  -- the numbered packages are such a set
  pub book-closed : IsBook files catalog scope extra book → IsClosed (all_offers files catalog scope) scope extra (is_in book)
  book-closed made = record {
    roots = λ r root. start-in made r.1 (list_any-append (λ d. bytes_eq r.1 d.1) scope.roots (map unnamed extra) ∙ or_left (lists scope.roots r.1) (lists (map unnamed extra) r.1) (lists-own scope.roots r root));
    extras = λ u one. start-in made u (list_any-append (λ d. bytes_eq u d.1) scope.roots (map unnamed extra)
        ∙ or_right (lists scope.roots u) (lists (map unnamed extra) u) (any-unnamed extra u ∙ passed-by (bytes_eq u) extra u one (own_id u)));
    needs = λ u x d inside offered dep. needs-in made u d.1 inside (dep-listed (all_offers files catalog scope u) x d offered dep);
  }

  -- and in every such set
  closed-by : (set : Id → Bool) → IsClosed (all_offers files catalog scope) scope extra set → IsClosedBy (all_offers files catalog scope) (start scope extra) set
  closed-by set closed = record {
    first = λ u begun. elim (or_cases (lists scope.roots u) (lists (map unnamed extra) u) (sym (list_any-append (λ d. bytes_eq u d.1) scope.roots (map unnamed extra)) ∙ begun)) [
      | inl root ↦ let (r, inside, passes) = found-by (λ d. bytes_eq u d.1) scope.roots root in ap set (same_id u r.1 passes) ∙ closed.roots r inside
      | inr more ↦ let (e, inside, passes) = found-by (bytes_eq u) extra (sym (any-unnamed extra u) ∙ more) in ap set (same_id u e passes) ∙ closed.extras e inside
    ];
    needs = λ u v here dep.
        let (x, offered, has_dep) = found-by (λ (one : Offering). lists one.deps v) (all_offers files catalog scope u) (sym (any-flat (λ (one : Offering). one.deps) (all_offers files catalog scope u) v) ∙ dep) in
        let (d, inside, passes) = found-by (λ d. bytes_eq v d.1) x.deps has_dep in
        ap set (same_id v d.1 passes) ∙ closed.needs u x d here offered inside;
  }

  pub book-reached : IsBook files catalog scope extra book → (u : Id) → is_in book u ≡ true → IsReached (all_offers files catalog scope) scope extra u
  book-reached made u inside = record { in_each = λ set closed. made.walked.reached set (closed-by set closed) u (sym (in-mentions made u) ∙ inside) }

  pub book-tells : IsBook files catalog scope extra book → (it : Packed) → Contains book it → it.has_source ≡ has_source catalog scope it.uuid
  book-tells made it inside =
      let by = all-inside (IsReadBy (found_in files catalog scope)) book it made.walked.each inside in
      ap (λ (one : Packed). one.has_source) by.is ∙ source-packed (it.uuid, by.name) by.found ∙ source-agrees files catalog scope it.uuid by.found by.answer

pub book_offers_are_all : BookOffersAreAll
book_offers_are_all files catalog scope extra book u is inside = book-offers files catalog scope extra book (is-book files catalog scope extra book is) u inside

pub book_tells_sources : BookTellsSources
book_tells_sources files catalog scope extra book it is inside = book-tells files catalog scope extra book (is-book files catalog scope extra book is) it inside

pub numbers_are_reached : NumbersAreReached
numbers_are_reached files catalog scope extra book u is =
    let made = is-book files catalog scope extra book is in
    (λ inside. book-reached files catalog scope extra book made u inside, λ reached. reached.in_each (is_in book) (book-closed files catalog scope extra book made))

pub numbers_go_by_mention : NumbersGoByMention
numbers_go_by_mention files catalog scope extra book is = let made = is-book files catalog scope extra book is in made.whole ∙ ap keys_of made.walked.order

-- ---- selections

module _ (files : Files) (catalog : SaidCatalog) (w : Wanted) (extra : List Id) (book : List Packed) (is : gathered files catalog (scope w) extra ≡ Ok book) where
  abbrev all : Offers
  all = all_offers files catalog (scope w)

  here : IsBook files catalog (scope w) extra book
  here = is-book files catalog (scope w) extra book is

  closed-set : IsClosedSet all w (is_in book)
  closed-set =
      let closed = book-closed files catalog (scope w) extra book here in
      record { roots = closed.roots; needs = λ u x d inside offered dep other. closed.needs u x d inside offered dep }

  same-in : (u : Id) → is_in book u ≡ true → book_offers book u ≡ all u
  same-in u inside = book-offers files catalog (scope w) extra book here u inside

  -- what is selected after the cut has a number
  cut-in : (s : Selected) (u : Id) → IsSome (version_in (cut_to (is_in book) s) u) → is_in book u ≡ true
  cut-in s u some =
      elim (is_in book u) as (λ b. is_in book u ≡ b → b ≡ true) [
        | true ↦ λ _. refl
        | false ↦ λ out. absurd (true≢false (sym some
            ∙ ap is_some (lookup-filter-keys (bytes_eq u) (is_in book) false (λ k same. ap (is_in book) (sym (same_id u k same)) ∙ out) s)))
      ] refl

  pub in-book : (s : Selected) → IsFeasible all w s → IsFeasible (book_offers book) w (cut_to (is_in book) s)
  in-book s feasible = same_offers all (book_offers book) w (cut_to (is_in book) s) (record { alike = λ u some. sym (same-in u (cut-in s u some)) }) (cut_stays_feasible all w s (is_in book) closed-set feasible)

  -- what the book offers has a number
  offered-in : (u : Id) (v : Version) → IsSome (offer_at (book_offers book) u v) → is_in book u ≡ true
  offered-in u v some =
      elim (is_in book u) as (λ b. is_in book u ≡ b → b ≡ true) [
        | true ↦ λ _. refl
        | false ↦ λ out. let none : book_offers book u ≡ [] = nothing-in files catalog (scope w) extra book book u (sym (numbered-any files catalog (scope w) extra book book u) ∙ out) in
            absurd (true≢false (sym some ∙ ap (λ offers. is_some (find (is_of v) offers)) none))
      ] refl

  version-of : (o : Option Version) → IsSome o → (v : Version) × (o ≡ Some v)
  version-of None some = absurd (true≢false (sym some))
  version-of (Some v) some = (v, refl)

  feasible-alike : (s : Selected) → IsFeasible (book_offers book) w s → OfferAlike (book_offers book) all s
  feasible-alike s feasible = record {
    alike = λ u some. let (v, there) = version-of (version_in s u) some in same-in u (offered-in u v (feasible.offered u v there));
  }

  pub over-all : (s : Selected) → IsFeasible (book_offers book) w s → IsFeasible all w s
  over-all s feasible = same_offers (book_offers book) all w s (feasible-alike s feasible) feasible

  taken-offered : (s : Selected) (u : Id) (x : Offering) → taken all s u ≡ Some x → Contains (all u) x
  taken-offered s u x =
      elim (version_in s u) as (λ o. option_and_then (offer_at all u) o ≡ Some x → Contains (all u) x) [
        | None ↦ λ wrong. absurd (none-some x wrong)
        | Some v ↦ λ found. find-inside (is_of v) (all u) x found
      ]

  -- the numbered packages spread over every selection, so what is needed has a number
  book-spreads : (s : Selected) → Spreads all w s (is_in book)
  book-spreads s = record {
    roots = closed-set.roots;
    needs = λ u x d inside is_taken dep other. closed-set.needs u x d inside (taken-offered s u x is_taken) dep other;
  }

  valid-alike : (s : Selected) → IsValid all w s → OfferAlike all (book_offers book) s
  valid-alike s valid = record {
    alike = λ u some. let (v, there) = version-of (version_in s u) some in sym (same-in u ((valid.needed u v there).in_each (is_in book) (book-spreads s)));
  }

  turned-alike : (o p : Offers) (s : Selected) → OfferAlike o p s → OfferAlike p o s
  turned-alike o p s same = record { alike = λ u some. sym (same.alike u some) }

  pub same-valid : (s : Selected) → (IsValid (book_offers book) w s → IsValid all w s) × (IsValid all w s → IsValid (book_offers book) w s)
  same-valid s = (
    λ valid. same_offers_valid (book_offers book) all w s (feasible-alike s valid.feasible) valid,
    λ valid. same_offers_valid all (book_offers book) w s (valid-alike s valid) valid,
  )

  pub same-raised : (s : Selected) (u : Id) (v : Version) → IsValid all w s → (CanRaise (book_offers book) w s u v → CanRaise all w s u v) × (CanRaise all w s u v → CanRaise (book_offers book) w s u v)
  same-raised s u v valid =
      let alike = valid-alike s valid in (
        λ can. same_offers_raise (book_offers book) all w s u v (turned-alike all (book_offers book) s alike) can,
        λ can. same_offers_raise all (book_offers book) w s u v alike can,
      )

pub feasible_in_book : FeasibleInBook
feasible_in_book files catalog w extra book s is feasible = in-book files catalog w extra book is s feasible

pub feasible_over_all : FeasibleOverAll
feasible_over_all files catalog w extra book s is feasible = over-all files catalog w extra book is s feasible

pub valid_alike : ValidAlike
valid_alike files catalog w extra book s is = same-valid files catalog w extra book is s

pub raised_alike : RaisedAlike
raised_alike files catalog w extra book s u v is valid = same-raised files catalog w extra book is s u v valid
