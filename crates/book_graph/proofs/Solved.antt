-- Solutions of the instance are the feasible selections over the book's offers.
use Rattle.std.proofs.Common.{◌≡◌, ◌≢◌, ℕ, ◌<◌, Bool, true, false, not, ◌&&◌, true≢false, List, ◌++◌, length, map, get_or, slice_get, find, Option, Some, None, is_some, IsSome, option_map, Contains, Ordering, Less, Equal, Greater, is_eq, ltb, lt-ltb, ltb-true, refl, sym, ap, ◌∙◌, subst, inl, arith}
use Rattle.std.specs.List.{position_or_len}
use Rattle.std.specs.List.Sorted.{IsStrictlySortedBy}
use Rattle.std.specs.Option.{option_and_then}
use Rattle.std.specs.Ordering.{ordering_reverse, eq_by_cmp}
use Rattle.std.proofs.lemmas.Bool.{and_from, and_parts}
use Rattle.std.proofs.lemmas.List.{get_or-map, length-map}
use Rattle.std.proofs.lemmas.List.Folds.{find_at}
use Rattle.std.proofs.lemmas.List.Sums.{position_or_len_is}
use Rattle.std.proofs.lemmas.Map.Keys.{Less-from_sorted}
use Rattle.std.proofs.lemmas.Option.{none-some, same_Some, slice_get_within, slice_get-get_or, get_or_from_slice_get}
use Rattle.jl_versions.specs.Order.{version_cmp}
use Rattle.jl_versions.specs.OrderLaws.{version_total, equal_is_same, eq_is_same}
use Rattle.jl_versions.specs.Triple.{triple_of}
use Rattle.jl_versions.specs.declared.version.Version.{Version}
use Rattle.compat_spec.specs.declared.part.Part.{Part}
use Rattle.compat_spec.specs.Meaning.{specifier_holds}
use Rattle.offer_terms.specs.Offered.{Text, Id, Allows, allows_holds, Offering, Selected, version_in, is_of, offer_at, taken}
use Rattle.offer_terms.specs.Booked.{Packed, package_at, number_of, book_offers}
use Rattle.offer_terms.specs.Demanded.{Wanted}
use Rattle.offer_terms.specs.Feasible.{IsFeasible}
use Rattle.version_graph.specs.Graph.{Graph, packages, states, is_barred, is_offered, IsSolution}
use Rattle.book_graph.specs.StandsFor.{id_of, offer_in, state_count, ShutsOffer, at_julia, at_project, at_pin, Shuts, Excludes, StandsFor, IsBook, is_held, Covers}
use Rattle.book_graph.specs.Chosen.{version_of, IsSelectionOf}
use Rattle.book_graph.proofs.Ids.{found_passes, number_is, number_at, offers_of_number}
use Rattle.book_graph.proofs.States.{not_true}

holds : (b : Bool) → (b ≡ false → ⊥) → b ≡ true
holds true never = refl
holds false never = absurd (never refl)

pub same_version : (v p : Version) → ((v ≡ p → ⊥) → ⊥) → v ≡ p
same_version v p never = (eq_is_same v p).0 (holds (eq_by_cmp version_cmp v p) (λ out. never (λ e. true≢false (sym ((eq_is_same v p).1 e) ∙ out))))

-- ---- offers by their versions

module _ (offers : List Offering) (rising : IsStrictlySortedBy version_cmp (map (λ x. x.version) offers)) where
  version_at : (k : ℕ) (d : Offering) → k < length offers → get_or (map (λ (x : Offering). x.version) offers) k d.version ≡ (get_or offers k d).version
  version_at k d below = get_or-map (λ (x : Offering). x.version) offers k d d.version below

  -- a lower place has a lower version
  pub versions_rise : (i j : ℕ) (x y : Offering) → i < j → slice_get offers i ≡ Some x → slice_get offers j ≡ Some y → version_cmp x.version y.version ≡ Less
  versions_rise i j x y below here there =
      let inside = slice_get_within offers j y there in
      let less = Less-from_sorted version_cmp (map (λ (z : Offering). z.version) offers) i j y.version rising below (omega (arith, inside, length-map offers (λ (z : Offering). z.version))) in
      let first : (get_or offers i y).version ≡ x.version = ap (λ (z : Offering). z.version) (get_or_from_slice_get offers i x y here) in
      let second : (get_or offers j y).version ≡ y.version = ap (λ (z : Offering). z.version) (get_or_from_slice_get offers j y y there) in
      (λ k. version_cmp (sym (version_at i y (omega (arith, below, inside)) ∙ first) k) (sym (version_at j y inside ∙ second) k)) ∙ less

  -- an offer is the one of its version
  pub place_of_version : (i : ℕ) (x : Offering) → slice_get offers i ≡ Some x → position_or_len (is_of x.version) offers ≡ i
  place_of_version i x there = position_or_len_is (is_of x.version) offers i x (omega (arith, inside)) before here
    where
      inside : i < length offers
      inside = slice_get_within offers i x there

      before : (k : ℕ) → k < i → is_of x.version (get_or offers k x) ≡ false
      before k below =
          let less = versions_rise k i (get_or offers k x) x below (slice_get-get_or offers k x (omega (arith, below, inside))) there in
          ap is_eq (version_total.antisymm x.version (get_or offers k x).version ∙ ap ordering_reverse less)

      here : i < length offers → is_of x.version (get_or offers i x) ≡ true
      here _ = ap (λ (y : Offering). is_of x.version y) (get_or_from_slice_get offers i x x there) ∙ ap is_eq ((equal_is_same x.version x.version).1 refl)

  pub found_version : (i : ℕ) (x : Offering) → slice_get offers i ≡ Some x → find (is_of x.version) offers ≡ Some x
  found_version i x there = find_at (is_of x.version) offers ∙ ap (slice_get offers) (place_of_version i x there) ∙ there

-- what is found at a version has that version
pub found_is_of : (offers : List Offering) (v : Version) (x : Offering) → find (is_of v) offers ≡ Some x → x.version ≡ v
found_is_of offers v x is = sym ((equal_is_same v x.version).0 (equal (version_cmp v x.version) (found_passes (is_of v) offers x is)))
  where
    equal : (r : Ordering) → is_eq r ≡ true → r ≡ Equal
    equal Less e = absurd (true≢false (sym e))
    equal Equal e = refl
    equal Greater e = absurd (true≢false (sym e))

-- and stands in its place
pub found_place : (offers : List Offering) (v : Version) (x : Offering) → find (is_of v) offers ≡ Some x → slice_get offers (position_or_len (is_of v) offers) ≡ Some x
found_place offers v x is = sym (find_at (is_of v) offers) ∙ is

pub some_value : {T : Type 0} (o : Option T) → IsSome o → (x : T) × (o ≡ Some x)
some_value None is = absurd (true≢false (sym is))
some_value (Some x) is = (x, refl)

pub is_some_of : {T : Type 0} (o : Option T) (x : T) → o ≡ Some x → IsSome o
is_some_of o x is = ap is_some is

-- ---- what states choose

-- the offer that is chosen of a package
abbrev pub offer_of : List Packed → List ℕ → ℕ → Option Offering
offer_of book chosen p = offer_in book p (get_or chosen p 0)

-- a package that is selected, with its number and its offer
pub record IsChosen (book : List Packed) (chosen : List ℕ) (u : Id) (v : Version) : Type 0 where
  pub number : ℕ
  pub known : number < length book
  pub named : id_of book number ≡ u
  pub offer : Offering
  pub there : offer_of book chosen number ≡ Some offer
  pub version : offer.version ≡ v

module _ (book : List Packed) (is_book : IsBook book) (chosen : List ℕ) (s : Selected) (selects : IsSelectionOf book chosen s) where
  pub selected_at : (p : ℕ) → p < length book → version_in s (id_of book p) ≡ version_of book chosen p
  selected_at p inside = selects.each (id_of book p) ∙ ap (option_and_then (version_of book chosen)) (number_at book is_book.once p inside)

  pub chosen_at : (u : Id) (v : Version) → version_in s u ≡ Some v → IsChosen book chosen u v
  chosen_at u v is =
      elim (number_of book u) as (λ o. number_of book u ≡ o → option_and_then (version_of book chosen) o ≡ Some v → IsChosen book chosen u v) [
        | None ↦ λ _ none. absurd (none-some v none)
        | Some q ↦ λ at found. by q (sym at) (offer_of book chosen q) refl found
      ] refl (sym (selects.each u) ∙ is)
    where
      by : (q : ℕ) → Some q ≡ number_of book u → (o : Option Offering) → offer_of book chosen q ≡ o → option_map (λ (x : Offering). x.version) o ≡ Some v → IsChosen book chosen u v
      by q at None there found = absurd (none-some v found)
      by q at (Some x) there found = let is = number_is book u q at in record { number = q; known = is.0; named = is.1; offer = x; there = there; version = same_Some x.version v found }

  offers_at : (p : ℕ) → p < length book → book_offers book (id_of book p) ≡ (package_at book p).offers
  offers_at p inside = offers_of_number book is_book.once p inside

  -- what is taken of a package is the offer that is chosen of it
  pub taken_at : (p : ℕ) → p < length book → taken (book_offers book) s (id_of book p) ≡ offer_of book chosen p
  taken_at p inside = ap (option_and_then (offer_at (book_offers book) (id_of book p))) (selected_at p inside) ∙ by (offer_of book chosen p) refl
    where
      by : (o : Option Offering) → offer_of book chosen p ≡ o → option_and_then (offer_at (book_offers book) (id_of book p)) (option_map (λ (x : Offering). x.version) o) ≡ o
      by None there = refl
      by (Some x) there = ap (find (is_of x.version)) (offers_at p inside) ∙ found_version (package_at book p).offers (is_book.rising p inside) (get_or chosen p 0) x there

  -- a package of which an offer is taken, by its number
  pub taken_chosen : (u : Id) (x : Offering) → taken (book_offers book) s u ≡ Some x → (p : ℕ) × (p < length book) × (id_of book p ≡ u) × (offer_of book chosen p ≡ Some x)
  taken_chosen u x is =
      elim (version_in s u) as (λ o. version_in s u ≡ o → option_and_then (offer_at (book_offers book) u) o ≡ Some x → (p : ℕ) × (p < length book) × (id_of book p ≡ u) × (offer_of book chosen p ≡ Some x)) [
        | None ↦ λ _ none. absurd (none-some x none)
        | Some v ↦ λ at _. by v (chosen_at u v at)
      ] refl is
    where
      by : (v : Version) → IsChosen book chosen u v → (p : ℕ) × (p < length book) × (id_of book p ≡ u) × (offer_of book chosen p ≡ Some x)
      by v c = (c.number, c.known, c.named, sym (taken_at c.number c.known) ∙ ap (taken (book_offers book) s) c.named ∙ is)

  pub selected_some : (p : ℕ) (x : Offering) → p < length book → offer_of book chosen p ≡ Some x → version_in s (id_of book p) ≡ Some x.version
  selected_some p x inside there = selected_at p inside ∙ ap (option_map (λ (y : Offering). y.version)) there

-- ---- a solution is feasible

-- a package that the book holds, by its number
pub held_number : (book : List Packed) (u : Id) → is_held book u ≡ true → (p : ℕ) × (p < length book) × (id_of book p ≡ u)
held_number book u held = by (number_of book u) refl held
  where
    by : (o : Option ℕ) → number_of book u ≡ o → is_some o ≡ true → (p : ℕ) × (p < length book) × (id_of book p ≡ u)
    by None at some = absurd (true≢false (sym some))
    by (Some p) at some = let is = number_is book u p (sym at) in (p, is.0, is.1)

module _ (book : List Packed) (w : Wanted) (g : Graph) (is_book : IsBook book) (stands : StandsFor book w g) where
  pub state_width : (p i : ℕ) → p < length book → i < states g p → i < state_count (package_at book p)
  state_width p i inside state = omega (arith, state, stands.wide p inside)

  pub graph_known : (p : ℕ) → p < length book → p < packages g
  graph_known p inside = omega (arith, inside, stands.each)

  pub book_known : (p : ℕ) → p < packages g → p < length book
  book_known p inside = omega (arith, inside, stands.each)

  -- an offered state is one that the demand doesn't shut
  pub offered_state : (p i : ℕ) → is_offered g p i ≡ true → (p < length book) × (i < state_count (package_at book p)) × (Shuts w (id_of book p) (offer_in book p i) → ⊥)
  unfolding is_offered
  offered_state p i is =
      let outer = and_parts (ltb p (packages g)) (ltb i (states g p) && not (is_barred g p i)) is in
      let inner = and_parts (ltb i (states g p)) (not (is_barred g p i)) outer.1 in
      let known : p < length book = book_known p (ltb-true p (packages g) outer.0) in
      let state = state_width p i known (ltb-true i (states g p) inner.0) in
      (known, state, λ shuts. true≢false (sym ((stands.barred p i known state).1 shuts) ∙ not_true _ inner.1))

  pub state_offered : (p i : ℕ) → p < length book → i < state_count (package_at book p) → (Shuts w (id_of book p) (offer_in book p i) → ⊥) → is_offered g p i ≡ true
  unfolding is_offered
  state_offered p i inside state open_ =
      and_from (ltb p (packages g)) _ (lt-ltb p (packages g) (graph_known p inside))
      (and_from (ltb i (states g p)) _ (lt-ltb i (states g p) (omega (arith, state, stands.wide p inside)))
      (free (is_barred g p i) (λ barred. open_ ((stands.barred p i inside state).0 barred))))
    where
      free : (b : Bool) → (b ≡ true → ⊥) → not b ≡ true
      free true never = absurd (never refl)
      free false never = refl

  module _ (chosen : List ℕ) (solves : IsSolution g chosen) where
    state_at : (p : ℕ) → p < length book → (get_or chosen p 0 < state_count (package_at book p)) × (Shuts w (id_of book p) (offer_of book chosen p) → ⊥)
    state_at p inside = let at = offered_state p (get_or chosen p 0) (solves.offered p (graph_known p inside)) in (at.1, at.2)

    -- the offer that is chosen of one package doesn't exclude the state of another
    pub met : (p q : ℕ) → p < length book → q < length book → p ≢ q → Excludes (offer_of book chosen p) (id_of book q) (offer_of book chosen q) → ⊥
    met p q first second ne excludes =
        true≢false (sym ((stands.forbidden p (get_or chosen p 0) q (get_or chosen q 0) first (state_at p first).0 second (state_at q second).0 ne).1 (inl excludes))
        ∙ solves.allowed p q (graph_known p first) (graph_known q second) ne)

    -- and no state that is chosen is shut
    pub unshut : (p : ℕ) (x : Offering) → p < length book → offer_of book chosen p ≡ Some x → ShutsOffer w (id_of book p) x → ⊥
    unshut p x inside there shuts = (state_at p inside).1 (subst (λ (o : Option Offering). Shuts w (id_of book p) o) (sym there) shuts)

    module _ (s : Selected) (selects : IsSelectionOf book chosen s) (covers : Covers book w) where
      -- a package that isn't absent is selected
      present : (u : Id) → is_held book u ≡ true → ((p : ℕ) → p < length book → id_of book p ≡ u → offer_of book chosen p ≡ None → ⊥) → IsSome (version_in s u)
      present u held never =
          let at = held_number book u held in
          by at.0 at.1 at.2 (offer_of book chosen at.0) refl
        where
          by : (p : ℕ) → p < length book → id_of book p ≡ u → (o : Option Offering) → offer_of book chosen p ≡ o → IsSome (version_in s u)
          by p inside named None none = absurd (never p inside named none)
          by p inside named (Some x) there = subst (λ t. IsSome (version_in s t)) named (is_some_of (version_in s (id_of book p)) x.version (selected_some book is_book chosen s selects p x inside there))

      roots : (r : Text × Id) → Contains w.roots r → IsSome (version_in s r.1)
      roots r root = present r.1 (covers.roots r root) (λ p inside named none.
          (state_at p inside).1 (subst (λ (o : Option Offering). Shuts w (id_of book p) o) (sym none)
          (record { name = r.0; there = subst (λ (x : Text × Id). Contains w.roots x) (λ k. (r.0, sym named k)) root })))

      -- the taken offer of a package is offered
      taken_offered : (p : ℕ) (x : Offering) → p < length book → offer_of book chosen p ≡ Some x → Contains (book_offers book (id_of book p)) x
      taken_offered p x inside there =
          let offers = (package_at book p).offers in
          subst (λ xs. Contains xs x) (sym (offers_of_number book is_book.once p inside))
          (get_or chosen p 0, slice_get_within offers (get_or chosen p 0) x there, get_or_from_slice_get offers (get_or chosen p 0) x x there)

      needs : (u : Id) (x : Offering) (d : Text × Id) → taken (book_offers book) s u ≡ Some x → Contains x.deps d → d.1 ≢ u → IsSome (version_in s d.1)
      needs u x d is dep other =
          let at = taken_chosen book is_book chosen s selects u x is in
          let held = covers.needs (id_of book at.0) x d (held_at at.0 at.1) (taken_offered at.0 x at.1 at.3) dep (λ e. other (e ∙ at.2)) in
          present d.1 held (λ q inside named none.
          met at.0 q at.1 inside (λ same. other (sym named ∙ ap (id_of book) (sym same) ∙ at.2))
          (subst (λ (o : Option Offering). Excludes o (id_of book q) (offer_of book chosen q)) (sym at.3)
          (subst (λ (o : Option Offering). Excludes (Some x) (id_of book q) o) (sym none)
          (record { name = d.0; there = subst (λ (y : Text × Id). Contains x.deps y) (λ k. (d.0, sym named k)) dep }))))
        where
          held_at : (p : ℕ) → p < length book → is_held book (id_of book p) ≡ true
          held_at p inside = ap is_some (number_at book is_book.once p inside)

      fits : (u : Id) (x : Offering) (e : Id × Allows) (v : Version) → taken (book_offers book) s u ≡ Some x → Contains x.compat e → e.0 ≢ u → version_in s e.0 ≡ Some v → allows_holds e.1 (triple_of v) ≡ true
      fits u x e v is entry other selected =
          let at = taken_chosen book is_book chosen s selects u x is in
          let on = chosen_at book is_book chosen s selects e.0 v selected in
          holds (allows_holds e.1 (triple_of v)) (λ out.
          met at.0 on.number at.1 on.known (λ same. other (sym on.named ∙ ap (id_of book) (sym same) ∙ at.2))
          (subst (λ (o : Option Offering). Excludes o (id_of book on.number) (offer_of book chosen on.number)) (sym at.3)
          (subst (λ (o : Option Offering). Excludes (Some x) (id_of book on.number) o) (sym on.there)
          (record { entry = e.1; there = subst (λ (y : Id × Allows). Contains x.compat y) (λ k. (sym on.named k, e.1)) entry; outside = ap (λ z. allows_holds e.1 (triple_of z)) on.version ∙ out }))))

      offered : (u : Id) (v : Version) → version_in s u ≡ Some v → IsSome (offer_at (book_offers book) u v)
      offered u v selected =
          let on = chosen_at book is_book chosen s selects u v selected in
          is_some_of (offer_at (book_offers book) u v) on.offer
          ((λ k. find (is_of (sym on.version k)) (book_offers book (sym on.named k))) ∙ ap (find (is_of on.offer.version)) (offers_of_number book is_book.once on.number on.known)
          ∙ found_version (package_at book on.number).offers (is_book.rising on.number on.known) (get_or chosen on.number 0) on.offer on.there)

      pub solution_feasible : IsFeasible (book_offers book) w s
      solution_feasible = record {
        once = selects.once;
        roots = roots;
        offered = offered;
        needs = needs;
        fits = fits;
        julia = λ u x e is entry on. let at = taken_chosen book is_book chosen s selects u x is in
            holds (allows_holds e.1 w.julia) (λ out. unshut at.0 x at.1 at.3 (at_julia e.1 (subst (λ (y : Id × Allows). Contains x.compat y) (λ k. (on k, e.1)) entry) out));
        compat = λ e v entry selected. let on = chosen_at book is_book chosen s selects e.0 v selected in
            holds (specifier_holds e.1 (triple_of v)) (λ out. unshut on.number on.offer on.known on.there
            (at_project e.1 (subst (λ (y : Id × List Part). Contains w.compat y) (λ k. (sym on.named k, e.1)) entry) (ap (λ z. specifier_holds e.1 (triple_of z)) on.version ∙ out)));
        pinned = λ p v pin selected. let on = chosen_at book is_book chosen s selects p.0 v selected in
            sym on.version ∙ same_version on.offer.version p.1 (λ ne. unshut on.number on.offer on.known on.there
            (at_pin p.1 (subst (λ (y : Id × Version). Contains (w.pins ++ w.held) y) (λ k. (sym on.named k, p.1)) pin) ne));
      }
