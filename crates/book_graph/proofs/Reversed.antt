-- A feasible selection over the book's offers is that of one solution.
use Rattle.std.proofs.Common.{◌≡◌, ◌≢◌, ℕ, ◌<◌, Bool, true, false, true≢false, List, [], length, get_or, slice_get, find, Option, Some, None, is_some, IsSome, option_map, refl, sym, ap, ◌∙◌, subst, inl, inr, arith}
use Rattle.std.specs.List.{position_or_len}
use Rattle.std.specs.Option.{option_and_then}
use Rattle.std.proofs.lemmas.List.{get_or-map, length-map}
use Rattle.std.proofs.lemmas.List.Folds.{find_at}
use Rattle.std.proofs.lemmas.Grind.{same_number_lists}
use Rattle.std.proofs.lemmas.Option.{none-some, slice_get_within}
use Rattle.jl_versions.specs.declared.version.Version.{Version}
use Rattle.package_tables.specs.Row.{julia_id}
use Rattle.offer_terms.specs.Offered.{Id, Offering, Selected, version_in, is_of, offer_at, taken}
use Rattle.offer_terms.specs.Booked.{Packed, unread, package_at, number_of, book_offers}
use Rattle.offer_terms.specs.Demanded.{Wanted}
use Rattle.offer_terms.specs.Feasible.{IsFeasible}
use Rattle.offer_terms.proofs.Books.{offers_nowhere}
use Rattle.version_graph.specs.Graph.{Graph, is_forbidden, IsSolution}
use Rattle.book_graph.specs.StandsFor.{id_of, offer_in, state_count, ShutsOffer, at_julia, at_project, at_pin, Shuts, Excludes, StandsFor, IsBook}
use Rattle.book_graph.specs.Chosen.{version_of, IsSelectionOf, state_of, states_of}
use Rattle.book_graph.specs.Laws.{FeasibleIsSolution, OneSolution, NoneIsFeasible}
use Rattle.book_graph.proofs.Ids.{number_is, one_number, offers_of_number}
use Rattle.book_graph.proofs.States.{last_from, none_last}
use Rattle.book_graph.proofs.Solved.{offer_of, found_is_of, place_of_version, some_value, selected_at, offered_state, state_offered, graph_known, book_known}

pub state_is : (book : List Packed) (s : Selected) (p : ℕ) → p < length book → get_or (states_of book s) p 0 ≡ state_of (package_at book p).offers (version_in s (id_of book p))
state_is book s p inside = get_or-map (λ (it : Packed). state_of it.offers (version_in s it.uuid)) book p (unread [] []) 0 inside

module _ (book : List Packed) (is_book : IsBook book) (s : Selected) where
  -- the offer in a package's state is the one that is taken of it
  pub state_offer : (p : ℕ) → p < length book → offer_of book (states_of book s) p ≡ taken (book_offers book) s (id_of book p)
  state_offer p inside = ap (offer_in book p) (state_is book s p inside) ∙ by (version_in s (id_of book p))
    where
      by : (o : Option Version) → offer_in book p (state_of (package_at book p).offers o) ≡ option_and_then (offer_at (book_offers book) (id_of book p)) o
      by None = none_last (package_at book p).offers
      by (Some v) = sym (find_at (is_of v) (package_at book p).offers) ∙ ap (find (is_of v)) (sym (offers_of_number book is_book.once p inside))

  module _ (w : Wanted) (feasible : IsFeasible (book_offers book) w s) where
    -- what is selected of a package is the version of the offer that is taken of it
    selected_taken : (u : Id) → version_in s u ≡ option_map (λ (x : Offering). x.version) (taken (book_offers book) s u)
    selected_taken u = by (version_in s u) refl
      where
        by : (o : Option Version) → version_in s u ≡ o → o ≡ option_map (λ (x : Offering). x.version) (option_and_then (offer_at (book_offers book) u) o)
        by None at = refl
        by (Some v) at =
            let found = some_value (offer_at (book_offers book) u v) (feasible.offered u v at) in
            ap Some (sym (found_is_of (book_offers book u) v found.0 found.1)) ∙ sym (ap (option_map (λ (x : Offering). x.version)) found.1)

    unheld : (u : Id) → number_of book u ≡ None → version_in s u ≡ None
    unheld u none = by (version_in s u) refl
      where
        by : (o : Option Version) → version_in s u ≡ o → o ≡ None
        by None at = refl
        by (Some v) at =
            let found = some_value (offer_at (book_offers book) u v) (feasible.offered u v at) in
            absurd (none-some found.0 (ap (find (is_of v)) (sym (offers_nowhere book u (sym none))) ∙ found.1))

    pub selection_back : IsSelectionOf book (states_of book s) s
    selection_back = record { once = feasible.once; each = λ u. by u (number_of book u) refl }
      where
        by : (u : Id) (o : Option ℕ) → number_of book u ≡ o → version_in s u ≡ option_and_then (version_of book (states_of book s)) o
        by u None at = unheld u at
        by u (Some q) at =
            let is = number_is book u q (sym at) in
            ap (version_in s) (sym is.1) ∙ selected_taken (id_of book q) ∙ ap (option_map (λ (x : Offering). x.version)) (sym (state_offer q is.0))

    abbrev chosen : List ℕ
    chosen = states_of book s

    selected_none : (p : ℕ) → p < length book → offer_of book chosen p ≡ None → version_in s (id_of book p) ≡ None
    selected_none p inside none = selected_taken (id_of book p) ∙ ap (option_map (λ (x : Offering). x.version)) (sym (state_offer p inside) ∙ none)

    selected_here : (p : ℕ) (x : Offering) → p < length book → offer_of book chosen p ≡ Some x → version_in s (id_of book p) ≡ Some x.version
    selected_here p x inside there = selected_taken (id_of book p) ∙ ap (option_map (λ (x : Offering). x.version)) (sym (state_offer p inside) ∙ there)

    taken_here : (p : ℕ) (x : Offering) → p < length book → offer_of book chosen p ≡ Some x → taken (book_offers book) s (id_of book p) ≡ Some x
    taken_here p x inside there = sym (state_offer p inside) ∙ there

    -- each state is one of its package
    within : (p : ℕ) → p < length book → get_or chosen p 0 < state_count (package_at book p)
    within p inside = subst (λ k. k < state_count (package_at book p)) (sym (state_is book s p inside)) (by (version_in s (id_of book p)) refl)
      where
        by : (o : Option Version) → version_in s (id_of book p) ≡ o → state_of (package_at book p).offers o < state_count (package_at book p)
        by None at = omega arith
        by (Some v) at =
            let found = some_value (offer_at (book_offers book) (id_of book p) v) (feasible.offered (id_of book p) v at) in
            let there : slice_get (package_at book p).offers (position_or_len (is_of v) (package_at book p).offers) ≡ Some found.0 =
            sym (find_at (is_of v) (package_at book p).offers) ∙ ap (find (is_of v)) (sym (offers_of_number book is_book.once p inside)) ∙ found.1 in
            let below = slice_get_within (package_at book p).offers (position_or_len (is_of v) (package_at book p).offers) found.0 there in
            omega (arith, below)

    never_absent : (o : Option Version) → IsSome o → o ≡ None → ⊥
    never_absent o some none = true≢false (sym some ∙ ap is_some none)

    unshut_offer : (p : ℕ) (x : Offering) → p < length book → offer_of book chosen p ≡ Some x → ShutsOffer w (id_of book p) x → ⊥
    unshut_offer p x inside there (at_julia entry among out) = true≢false (sym (feasible.julia (id_of book p) x (julia_id, entry) (taken_here p x inside there) among refl) ∙ out)
    unshut_offer p x inside there (at_project parts among out) = true≢false (sym (feasible.compat (id_of book p, parts) x.version among (selected_here p x inside there)) ∙ out)
    unshut_offer p x inside there (at_pin pin among ne) = ne (feasible.pinned (id_of book p, pin) x.version among (selected_here p x inside there))

    unshut_state : (p : ℕ) → p < length book → Shuts w (id_of book p) (offer_of book chosen p) → ⊥
    unshut_state p inside shuts = by (offer_of book chosen p) refl shuts
      where
        by : (o : Option Offering) → offer_of book chosen p ≡ o → Shuts w (id_of book p) o → ⊥
        by None none root = never_absent (version_in s (id_of book p)) (feasible.roots (root.name, id_of book p) root.there) (selected_none p inside none)
        by (Some x) there shuts = unshut_offer p x inside there shuts

    unexcluded : (p q : ℕ) → p < length book → q < length book → p ≢ q → Excludes (offer_of book chosen p) (id_of book q) (offer_of book chosen q) → ⊥
    unexcluded p q first second ne excludes = by (offer_of book chosen p) (offer_of book chosen q) refl refl excludes
      where
        other : id_of book q ≢ id_of book p
        other same = ne (one_number book is_book.once p q first second (sym same))

        by : (o t : Option Offering) → offer_of book chosen p ≡ o → offer_of book chosen q ≡ t → Excludes o (id_of book q) t → ⊥
        by None t here there none = none
        by (Some x) None here there d =
            never_absent (version_in s (id_of book q)) (feasible.needs (id_of book p) x (d.name, id_of book q) (taken_here p x first here) d.there other) (selected_none q second there)
        by (Some x) (Some y) here there e =
            true≢false (sym (feasible.fits (id_of book p) x (id_of book q, e.entry) y.version (taken_here p x first here) e.there other (selected_here q y second there)) ∙ e.outside)

    module _ (g : Graph) (stands : StandsFor book w g) where
      allowed : (p q : ℕ) → p < length book → q < length book → p ≢ q → is_forbidden g p (get_or chosen p 0) q (get_or chosen q 0) ≡ false
      allowed p q first second ne = by (is_forbidden g p (get_or chosen p 0) q (get_or chosen q 0)) refl
        where
          by : (b : Bool) → is_forbidden g p (get_or chosen p 0) q (get_or chosen q 0) ≡ b → b ≡ false
          by false at = refl
          by true at = absurd (elim ((stands.forbidden p (get_or chosen p 0) q (get_or chosen q 0) first (within p first) second (within q second) ne).0 at) [
            | inl e ↦ unexcluded p q first second ne e
            | inr e ↦ unexcluded q p second first (λ e. ne (sym e)) e
          ])

      pub feasible_solves : IsSolution g chosen
      feasible_solves = record {
        each = length-map book (λ (it : Packed). state_of it.offers (version_in s it.uuid)) ∙ sym stands.each;
        offered = λ p known. let inside = book_known book w g is_book stands p known in
            state_offered book w g is_book stands p (get_or chosen p 0) inside (within p inside) (unshut_state p inside);
        allowed = λ p q first second ne. allowed p q (book_known book w g is_book stands p first) (book_known book w g is_book stands q second) ne;
      }

pub feasible_is_solution : FeasibleIsSolution
feasible_is_solution book w g s is_book stands feasible = (feasible_solves book is_book s w feasible g stands, selection_back book is_book s w feasible)

pub none_is_feasible : NoneIsFeasible
none_is_feasible book w g is_book stands none s feasible = none (states_of book s) (feasible_solves book is_book s w feasible g stands)

-- ---- one solution

pub one_solution : OneSolution
one_solution book w g chosen s is_book stands solves selects = same_number_lists chosen (states_of book s)
    (solves.each ∙ stands.each ∙ sym (length-map book (λ (it : Packed). state_of it.offers (version_in s it.uuid))))
    (λ p below. at p (let each = solves.each in omega (arith, below, each, stands.each)))
  where
    at : (p : ℕ) → p < length book → get_or chosen p 0 ≡ get_or (states_of book s) p 0
    at p inside = by (offer_of book chosen p) refl ∙ ap (state_of (package_at book p).offers) (sym (selected_at book is_book chosen s selects p inside)) ∙ sym (state_is book s p inside)
      where
        by : (o : Option Offering) → offer_of book chosen p ≡ o → get_or chosen p 0 ≡ state_of (package_at book p).offers (option_map (λ (x : Offering). x.version) (offer_of book chosen p))
        by None none =
            let width = (offered_state book w g is_book stands p (get_or chosen p 0) (solves.offered p (graph_known book w g is_book stands p inside))).1 in
            last_from (package_at book p).offers (get_or chosen p 0) width none ∙ ap (λ o. state_of (package_at book p).offers (option_map (λ (x : Offering). x.version) o)) (sym none)
        by (Some x) there =
            sym (place_of_version (package_at book p).offers (is_book.rising p inside) (get_or chosen p 0) x there) ∙ ap (λ o. state_of (package_at book p).offers (option_map (λ (x : Offering). x.version) o)) (sym there)
