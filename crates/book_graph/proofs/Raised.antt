-- Raising a package alone, in a solution and in its selection; and what a finished solution selects.
use Rattle.std.proofs.Common.{◌≡◌, ◌≢◌, ℕ, ◌<◌, Bool, true, false, cond, true≢false, List, length, get_or, set, find, Option, Some, None, is_some, option_map, Contains, ◌++◌, bytes_eq, Less, Equal, Greater, length-set, refl, sym, ap, ◌∙◌, subst, inl, inr, arith}
use Rattle.std.specs.List.{position_or_len}
use Rattle.std.specs.Map.{keys_of}
use Rattle.std.specs.Cmp.{tied_itself}
use Rattle.std.specs.Cmp.Lexicographic.{nat_list_eq_equiv}
use Rattle.std.specs.Option.{option_and_then}
use Rattle.std.specs.Ordering.{ordering_reverse}
use Rattle.std.proofs.lemmas.Bool.{cases_lt, cases_eq}
use Rattle.std.proofs.lemmas.List.{get_or-set_same, get_or-set_other}
use Rattle.std.proofs.lemmas.List.Folds.{find_at}
use Rattle.std.proofs.lemmas.Map.{keys-set_value, lookup-set_value}
use Rattle.std.proofs.lemmas.Option.{same_Some, slice_get_within, slice_get-get_or}
use Rattle.jl_versions.specs.Order.{version_cmp}
use Rattle.jl_versions.specs.OrderLaws.{version_total}
use Rattle.jl_versions.specs.declared.version.Version.{Version}
use Rattle.offer_terms.specs.ById.{AreRising}
use Rattle.offer_terms.specs.Offered.{Id, Offering, Selected, version_in, is_of, offer_at, with_version}
use Rattle.offer_terms.specs.Booked.{Packed, package_at, number_of, book_offers}
use Rattle.offer_terms.specs.Demanded.{Wanted}
use Rattle.offer_terms.specs.Feasible.{IsNeeded, CanRaise}
use Rattle.version_graph.specs.Graph.{Graph, packages, last, is_forbidden, is_offered, IsSolution}
use Rattle.raise_pass.specs.Finishing.{IsFinished}
use Rattle.raise_pass.specs.Finishing as finishing
use Rattle.book_graph.specs.StandsFor.{id_of, offer_in, state_count, at_pin, Shuts, StandsFor, IsBook, Covers}
use Rattle.book_graph.specs.Chosen.{version_of, IsSelectionOf, state_of, states_of}
use Rattle.book_graph.specs.Laws.{RaisesTo, RaiseIsRaise, FinishedIsBest}
use Rattle.book_graph.proofs.Ids.{id_case, id_itself, same_id, number_is, number_at, one_number, offers_of_number}
use Rattle.book_graph.proofs.Solved.{offer_of, IsChosen, chosen_at, selected_some, versions_rise, found_version, found_is_of, some_value, is_some_of, same_version, unshut, offered_state, graph_known, book_known, solution_feasible}
use Rattle.book_graph.proofs.Reversed.{state_is, feasible_solves, one_solution}
use Rattle.book_graph.proofs.Reached.{last_is, reach_needed}

-- ---- one package changed in a selection

module _ (s : Selected) (u : Id) (v old : Version) (there : version_in s u ≡ Some old) where
  changed_at : (t : Id) → version_in (with_version s u v) t ≡ cond (bytes_eq u t) (Some v) (version_in s t)
  changed_at t = lookup-set_value nat_list_eq_equiv (bytes_eq u) (λ x y is. ap (λ k. bytes_eq k y) (same_id u x is)) t v s (ap is_some there)

  changed_here : version_in (with_version s u v) u ≡ Some v
  changed_here = changed_at u ∙ ap (λ b. cond b (Some v) (version_in s u)) (id_itself u u refl)

  changed_apart : (t : Id) → (t ≡ u → ⊥) → version_in (with_version s u v) t ≡ version_in s t
  changed_apart t ne = changed_at t ∙ elim (id_case u t) [ inl here ↦ absurd (ne (sym here.0)) | inr a ↦ ap (λ b. cond b (Some v) (version_in s t)) a.1 ]

changed_keys : (s : Selected) (u : Id) (v : Version) → AreRising (keys_of s) → AreRising (keys_of (with_version s u v))
changed_keys s u v once = subst AreRising (sym (keys-set_value (bytes_eq u) s v)) once

less_not : (a b : Version) → version_cmp a b ≡ Less → version_cmp b a ≡ Less → ⊥
less_not a b below above = different (sym (version_total.antisymm a b ∙ ap ordering_reverse above) ∙ below)
  where
    different : Greater ≡ Less → ⊥
    different e = cc

less_itself : (a b : Version) → a ≡ b → version_cmp a b ≡ Less → ⊥
less_itself a b same below = different (sym (ap (version_cmp a) (sym same) ∙ tied_itself version_total a) ∙ below)
  where
    different : Equal ≡ Less → ⊥
    different e = cc

module _ (book : List Packed) (w : Wanted) (g : Graph) (chosen : List ℕ) (s : Selected) (is_book : IsBook book) (covers : Covers book w) (stands : StandsFor book w g) (solves : IsSolution g chosen) (selects : IsSelectionOf book chosen s) where
  inside_of : (p : ℕ) → p < packages g → p < length book
  inside_of p known = book_known book w g is_book stands p known

  offer_before_last : (p i : ℕ) (x : Offering) → p < length book → offer_in book p i ≡ Some x → i < last g p
  offer_before_last p i x inside there = let below = slice_get_within (package_at book p).offers i x there in omega (arith, below, last_is book w g stands p inside)

  -- ---- from the selection

  module _ (u : Id) (v : Version) (can : CanRaise (book_offers book) w s u v) where
    abbrev next : Selected
    next = with_version s u v

    abbrev after : List ℕ
    after = states_of book next

    after_solves : IsSolution g after
    after_solves = feasible_solves book is_book next w can.stays g stands

    raised_from : IsChosen book chosen u can.old → RaisesTo book g chosen u v
    raised_from c =
        let p = c.number in
        let offers = (package_at book p).offers in
        let j = position_or_len (is_of v) offers in
        let found = some_value (offer_at (book_offers book) u v) can.offered in
        let y = found.0 in
        let there : offer_in book p j ≡ Some y = sym (find_at (is_of v) offers) ∙ ap (find (is_of v)) (sym (offers_of_number book is_book.once p c.known)) ∙ (λ k. find (is_of v) (book_offers book (c.named k))) ∙ found.1 in
        let version : y.version ≡ v = found_is_of (book_offers book u) v y found.1 in
        let state : get_or after p 0 ≡ j =
        state_is book next p c.known ∙ ap (state_of offers) ((λ k. version_in next (c.named k)) ∙ changed_here s u v can.old can.selected) in
        let less : version_cmp c.offer.version y.version ≡ Less = (λ k. version_cmp (c.version k) (version k)) ∙ can.greater in
        record {
          place = p;
          state = j;
          offer = y;
          named = c.named;
          there = there;
          version = version;
          can = record {
            known = graph_known book w g is_book stands p c.known;
            greater = above p c.known (get_or chosen p 0) j c.offer y c.there there less;
            present = offer_before_last p j y c.known there;
            offered = subst (λ k. is_offered g p k ≡ true) state (after_solves.offered p (graph_known book w g is_book stands p c.known));
            allowed = λ q known ne.
                let same : get_or after q 0 ≡ get_or chosen q 0 = others q (inside_of q known) (λ e. ne (one_number book is_book.once q p (inside_of q known) c.known (e ∙ sym c.named))) in
                (λ k. is_forbidden g p (sym state k) q (sym same k)) ∙ after_solves.allowed p q (graph_known book w g is_book stands p c.known) known (λ e. ne (sym e));
          };
        }
      where
        above : (p : ℕ) → p < length book → (i j : ℕ) (x y : Offering) → offer_in book p i ≡ Some x → offer_in book p j ≡ Some y → version_cmp x.version y.version ≡ Less → i < j
        above p inside i j x y here there less = elim (cases_lt i j) [
          | inl below ↦ below
          | inr past ↦ absurd (elim (cases_eq i j) [
            | inl same ↦ less_itself x.version y.version (ap (λ (z : Offering). z.version) (same_Some x y (sym here ∙ ap (offer_in book p) same ∙ there))) less
            | inr ne ↦ less_not x.version y.version less (versions_rise (package_at book p).offers (is_book.rising p inside) j i y x (omega (arith, past, ne)) there here)
          ])
        ]

        others : (q : ℕ) → q < length book → (id_of book q ≡ u → ⊥) → get_or after q 0 ≡ get_or chosen q 0
        others q inside ne =
            state_is book next q inside ∙ ap (state_of (package_at book q).offers) (changed_apart s u v can.old can.selected (id_of book q) ne)
            ∙ sym (state_is book s q inside) ∙ ap (λ xs. get_or xs q 0) (sym (one_solution book w g chosen s is_book stands solves selects))

    pub raise_down : RaisesTo book g chosen u v
    raise_down = raised_from (chosen_at book is_book chosen s selects u can.old can.selected)

  -- ---- from the solution

  module _ (p j : ℕ) (y : Offering) (can : finishing.CanRaise g chosen p j) (there : offer_in book p j ≡ Some y) where
    abbrev raised : List ℕ
    raised = set chosen p j

    known : p < length book
    known = inside_of p can.known

    below : p < length chosen
    below = let k = can.known in let each = solves.each in omega (arith, k, each)

    at_p : get_or raised p 0 ≡ j
    at_p = get_or-set_same chosen p j 0 below

    at_q : (q : ℕ) → q ≢ p → get_or raised q 0 ≡ get_or chosen q 0
    at_q q ne = get_or-set_other chosen p q j 0 ne

    -- forbidden in either order
    turned : (a b c d : ℕ) → a < packages g → c < packages g → a ≢ c → b < state_count (package_at book a) → d < state_count (package_at book c) → is_forbidden g a b c d ≡ false → is_forbidden g c d a b ≡ false
    turned a b c d first second ne state other is = by (is_forbidden g c d a b) refl
      where
        by : (r : Bool) → is_forbidden g c d a b ≡ r → r ≡ false
        by false at = refl
        by true at = absurd (true≢false (sym ((stands.forbidden a b c d (inside_of a first) state (inside_of c second) other ne).1
            (elim ((stands.forbidden c d a b (inside_of c second) other (inside_of a first) state (λ e. ne (sym e))).0 at) [ inl e ↦ inr e | inr e ↦ inl e ])) ∙ is))

    width : (q : ℕ) → q < packages g → get_or chosen q 0 < state_count (package_at book q)
    width q inside = (offered_state book w g is_book stands q (get_or chosen q 0) (solves.offered q inside)).1

    j_state : j < state_count (package_at book p)
    j_state = let inside = slice_get_within (package_at book p).offers j y there in omega (arith, inside)

    raised_solves : IsSolution g raised
    raised_solves = record {
      each = length-set chosen p j ∙ solves.each;
      offered = λ q inside. elim (cases_eq q p) [
        | inl same ↦ subst (λ k. is_offered g k (get_or raised k 0) ≡ true) (sym same) (subst (λ i. is_offered g p i ≡ true) (sym at_p) can.offered)
        | inr ne ↦ subst (λ i. is_offered g q i ≡ true) (sym (at_q q ne)) (solves.offered q inside)
      ];
      allowed = λ a c first second ne. elim (cases_eq a p) [
        | inl same ↦
            let other : c ≢ p = λ e. ne (same ∙ sym e) in
            (λ k. is_forbidden g (same k) (get_or raised (same k) 0) c (at_q c other k)) ∙ (λ k. is_forbidden g p (at_p k) c (get_or chosen c 0)) ∙ can.allowed c second other
        | inr ne_a ↦ elim (cases_eq c p) [
          | inl same ↦
              (λ k. is_forbidden g a (at_q a ne_a k) (same k) (get_or raised (same k) 0)) ∙ (λ k. is_forbidden g a (get_or chosen a 0) p (at_p k))
              ∙ turned p j a (get_or chosen a 0) can.known first (λ e. ne_a (sym e)) j_state (width a first) (can.allowed a first ne_a)
          | inr ne_c ↦ (λ k. is_forbidden g a (at_q a ne_a k) c (at_q c ne_c k)) ∙ solves.allowed a c first second ne
        ]
      ];
    }

    -- the offer that is chosen before
    before : (x : Offering) × (offer_of book chosen p ≡ Some x)
    before =
        let last = last_is book w g stands p known in
        let g1 = can.greater in
        let g2 = can.present in
        let offers = (package_at book p).offers in
        let inside : get_or chosen p 0 < length offers = omega (arith, g1, g2, last) in
        (get_or offers (get_or chosen p 0) y, slice_get-get_or offers (get_or chosen p 0) y inside)

    selected_before : version_in s (id_of book p) ≡ Some before.0.version
    selected_before = selected_some book is_book chosen s selects p before.0 known before.1

    abbrev next_selected : Selected
    next_selected = with_version s (id_of book p) y.version

    raised_selects : IsSelectionOf book raised next_selected
    raised_selects = record {
      once = changed_keys s (id_of book p) y.version selects.once;
      each = λ t. elim (id_case t (id_of book p)) [
        | inl same ↦ (λ k. version_in next_selected (same.0 k)) ∙ changed_here s (id_of book p) y.version before.0.version selected_before
            ∙ sym (ap (option_map (λ (x : Offering). x.version)) (ap (offer_in book p) at_p ∙ there))
            ∙ sym (ap (option_and_then (version_of book raised)) (ap (number_of book) same.0 ∙ number_at book is_book.once p known))
        | inr other ↦ changed_apart s (id_of book p) y.version before.0.version selected_before t other.0 ∙ selects.each t ∙ by t other.0 (number_of book t) refl
      ];
    }
      where
        by : (t : Id) → (t ≡ id_of book p → ⊥) → (o : Option ℕ) → number_of book t ≡ o → option_and_then (version_of book chosen) o ≡ option_and_then (version_of book raised) o
        by t ne None at = refl
        by t ne (Some q) at =
            let is = number_is book t q (sym at) in
            let apart : q ≢ p = λ e. ne (sym is.1 ∙ ap (id_of book) e) in
            ap (λ i. option_map (λ (x : Offering). x.version) (offer_in book q i)) (sym (at_q q apart))

    rises : version_cmp before.0.version y.version ≡ Less
    rises = versions_rise (package_at book p).offers (is_book.rising p known) (get_or chosen p 0) j before.0 y can.greater before.1 there

    free : (pin : Id × Version) → Contains (w.pins ++ w.held) pin → pin.0 ≢ id_of book p
    free pin among named =
        let here : Contains (w.pins ++ w.held) (id_of book p, pin.1) = subst (λ (x : Id × Version). Contains (w.pins ++ w.held) x) (λ k. (named k, pin.1)) among in
        let old : before.0.version ≡ pin.1 = same_version before.0.version pin.1 (λ ne. unshut book w g is_book stands chosen solves p before.0 known before.1 (at_pin pin.1 here ne)) in
        let new : y.version ≡ pin.1 = same_version y.version pin.1 (λ ne.
        (offered_state book w g is_book stands p j can.offered).2 (subst (λ (o : Option Offering). Shuts w (id_of book p) o) (sym there) (at_pin pin.1 here ne))) in
        less_itself before.0.version y.version (old ∙ sym new) rises

    pub raise_up : CanRaise (book_offers book) w s (id_of book p) y.version
    raise_up = record {
      free = free;
      old = before.0.version;
      selected = selected_before;
      greater = rises;
      offered = is_some_of (offer_at (book_offers book) (id_of book p) y.version) y
          (ap (find (is_of y.version)) (offers_of_number book is_book.once p known) ∙ found_version (package_at book p).offers (is_book.rising p known) j y there);
      stays = solution_feasible book w g is_book stands raised raised_solves next_selected raised_selects covers;
    }

pub raise_is_raise : RaiseIsRaise
raise_is_raise book w g chosen s u v is_book covers stands solves selects = (
  λ can. raise_down book w g chosen s is_book covers stands solves selects u v can,
  λ r. subst (λ t. CanRaise (book_offers book) w s t v) r.named (subst (λ z. CanRaise (book_offers book) w s (id_of book r.place) z) r.version
      (raise_up book w g chosen s is_book covers stands solves selects r.place r.state r.offer r.can r.there)),
)

-- ---- a finished solution

pub finished_is_best : FinishedIsBest
finished_is_best book w g chosen s is_book covers stands solves finished selects = (
  record { feasible = solution_feasible book w g is_book stands chosen solves s selects covers; needed = λ u v at. needed u v (chosen_at book is_book chosen s selects u v at) },
  λ u v can. let r = raise_down book w g chosen s is_book covers stands solves selects u v can in finished.highest r.place r.state r.can,
)
  where
    needed : (u : Id) (v : Version) → IsChosen book chosen u v → IsNeeded (book_offers book) w s u
    needed u v c =
        let below = slice_get_within (package_at book c.number).offers (get_or chosen c.number 0) c.offer c.there in
        subst (λ t. IsNeeded (book_offers book) w s t) c.named
        (reach_needed book w g chosen s is_book stands solves selects c.number c.known
        (finished.trimmed.reached c.number (graph_known book w g is_book stands c.number c.known) (λ e. let l = last_is book w g stands c.number c.known in absurd (omega (arith, below, e, l)))))
