-- What a solution's states need is what its selection needs.
use Rattle.std.proofs.Common.{◌≡◌, ◌≢◌, ℕ, ◌<◌, Bool, true, not, ◌&&◌, ◌==◌, true≢false, List, length, get_or, ltb, lt-ltb, ltb-true, Option, Some, None, Contains, refl, sym, ap, ◌∙◌, subst, inl, inr, arith}
use Rattle.std.proofs.lemmas.Bool.{and_parts, and_from, ne_eqb, eq-eqb}
use Rattle.offer_terms.specs.Offered.{Text, Id, Offering, Selected}
use Rattle.offer_terms.specs.Booked.{Packed, package_at, number_of, book_offers}
use Rattle.offer_terms.specs.Demanded.{Wanted}
use Rattle.offer_terms.specs.Feasible.{Spreads, IsNeeded}
use Rattle.version_graph.specs.Graph.{Graph, packages, last, is_barred, is_forbidden, is_root, does_need, IsSolution}
use Rattle.raise_pass.specs.Finishing.{IsReached}
use Rattle.raise_pass.specs.Finishing as finishing
use Rattle.book_graph.specs.StandsFor.{id_of, offer_in, state_count, IsRoot, Shuts, Depends, Excludes, StandsFor, IsBook}
use Rattle.book_graph.specs.Chosen.{IsSelectionOf}
use Rattle.book_graph.specs.Laws.{NeedIsReach}
use Rattle.book_graph.proofs.Ids.{number_is, number_at, number_named, one_number}
use Rattle.book_graph.proofs.States.{none_last}
use Rattle.book_graph.proofs.Solved.{offer_of, taken_at, taken_chosen, graph_known, book_known, offered_state}

module _ (book : List Packed) (w : Wanted) (g : Graph) (stands : StandsFor book w g) where
  pub last_is : (p : ℕ) → p < length book → last g p ≡ length (package_at book p).offers
  last_is p inside = omega (arith, stands.wide p inside)

  last_state : (p : ℕ) → p < length book → last g p < state_count (package_at book p)
  last_state p inside = omega (arith, last_is p inside)

  last_none : (p : ℕ) → p < length book → offer_in book p (last g p) ≡ None
  last_none p inside = ap (offer_in book p) (last_is p inside) ∙ none_last (package_at book p).offers

  pub root_is : (p : ℕ) → is_root g p ≡ true → (p < length book) × IsRoot w (id_of book p)
  root_is p is =
      let parts = and_parts (ltb p (packages g)) (is_barred g p (last g p)) is in
      let inside : p < length book = (let known = ltb-true p (packages g) parts.0 in omega (arith, known, stands.each)) in
      (inside, subst (λ (o : Option Offering). Shuts w (id_of book p) o) (last_none p inside) ((stands.barred p (last g p) inside (last_state p inside)).0 parts.1))

  pub is_root_of : (p : ℕ) → p < length book → IsRoot w (id_of book p) → is_root g p ≡ true
  is_root_of p inside root =
      and_from (ltb p (packages g)) (is_barred g p (last g p)) (lt-ltb p (packages g) (omega (arith, inside, stands.each)))
      ((stands.barred p (last g p) inside (last_state p inside)).1 (subst (λ (o : Option Offering). Shuts w (id_of book p) o) (sym (last_none p inside)) root))

  -- a state that needs a package, by its offer
  pub need_is : (p i q : ℕ) → p < length book → i < state_count (package_at book p) → does_need g p i q ≡ true → (q < length book) × (p ≢ q) × Excludes (offer_in book p i) (id_of book q) None
  need_is p i q inside state is =
      let parts = and_parts (ltb q (packages g)) (not (q == p) && is_forbidden g p i q (last g q)) is in
      let inner = and_parts (not (q == p)) (is_forbidden g p i q (last g q)) parts.1 in
      let there : q < length book = (let known = ltb-true q (packages g) parts.0 in omega (arith, known, stands.each)) in
      let ne : p ≢ q = λ same. true≢false (sym inner.0 ∙ ap not (eq-eqb q p (sym same))) in (
        there,
        ne,
        elim ((stands.forbidden p i q (last g q) inside state there (last_state q there) ne).0 inner.1) [
          | inl e ↦ subst (λ (o : Option Offering). Excludes (offer_in book p i) (id_of book q) o) (last_none q there) e
          | inr e ↦ absurd (subst (λ (o : Option Offering). Excludes o (id_of book p) (offer_in book p i)) (last_none q there) e)
        ],
      )

  pub does_need_of : (p i q : ℕ) (x : Offering) → p < length book → i < state_count (package_at book p) → q < length book → p ≢ q → offer_in book p i ≡ Some x → Depends x (id_of book q) → does_need g p i q ≡ true
  does_need_of p i q x inside state there ne here d =
      and_from (ltb q (packages g)) _ (lt-ltb q (packages g) (omega (arith, there, stands.each)))
      (and_from (not (q == p)) _ (ap not (ne_eqb q p (λ e. ne (sym e))))
      ((stands.forbidden p i q (last g q) inside state there (last_state q there) ne).1 (inl
      (subst (λ (o : Option Offering). Excludes o (id_of book q) (offer_in book q (last g q))) (sym here)
      (subst (λ (o : Option Offering). Excludes (Some x) (id_of book q) o) (sym (last_none q there)) d)))))

-- whether the set has the package's number; true of what has none
abbrev numbered : (ℕ → Bool) → Option ℕ → Bool
numbered set None = true
numbered set (Some p) = set p

module _ (book : List Packed) (w : Wanted) (g : Graph) (chosen : List ℕ) (s : Selected) (is_book : IsBook book) (stands : StandsFor book w g) (solves : IsSolution g chosen) (selects : IsSelectionOf book chosen s) where
  width : (p : ℕ) → p < length book → get_or chosen p 0 < state_count (package_at book p)
  width p inside = (offered_state book w g is_book stands p (get_or chosen p 0) (solves.offered p (graph_known book w g is_book stands p inside))).1

  -- a set that spreads over identifiers does so over numbers
  spreads_down : (set : Id → Bool) → Spreads (book_offers book) w s set → finishing.Spreads g chosen (λ p. set (id_of book p))
  spreads_down set spreads = record {
    roots = λ p is. let root = (root_is book w g stands p is).1 in spreads.roots (root.name, id_of book p) root.there;
    needs = λ p q known here is.
        let inside = book_known book w g is_book stands p known in
        let need = need_is book w g stands p (get_or chosen p 0) q inside (width p inside) is in
        by p q inside need.0 need.1 here (offer_of book chosen p) refl need.2;
  }
    where
      by : (p q : ℕ) → p < length book → q < length book → p ≢ q → set (id_of book p) ≡ true → (o : Option Offering) → offer_of book chosen p ≡ o → Excludes o (id_of book q) None → set (id_of book q) ≡ true
      by p q inside there ne here None at none = absurd none
      by p q inside there ne here (Some x) at d = spreads.needs (id_of book p) x (d.name, id_of book q) here (taken_at book is_book chosen s selects p inside ∙ at) d.there
          (λ same. ne (one_number book is_book.once p q inside there (sym same)))

  -- and one that spreads over numbers does so over identifiers
  spreads_up : (set : ℕ → Bool) → finishing.Spreads g chosen set → Spreads (book_offers book) w s (λ u. numbered set (number_of book u))
  spreads_up set spreads = record {
    roots = λ r root. by_root r root (number_of book r.1) refl;
    needs = λ u x d here is dep other.
        let at = taken_chosen book is_book chosen s selects u x is in
        by_need u x d at.0 at.1 at.2 at.3 here dep other (number_of book d.1) refl;
  }
    where
      by_root : (r : Text × Id) → Contains w.roots r → (o : Option ℕ) → number_of book r.1 ≡ o → numbered set o ≡ true
      by_root r root None at = refl
      by_root r root (Some q) at =
          let is = number_is book r.1 q (sym at) in
          spreads.roots q (is_root_of book w g stands q is.0 (record { name = r.0; there = subst (λ (x : Text × Id). Contains w.roots x) (λ k. (r.0, sym is.1 k)) root }))

      by_need : (u : Id) (x : Offering) (d : Text × Id) (p : ℕ) → p < length book → id_of book p ≡ u → offer_of book chosen p ≡ Some x → numbered set (number_of book u) ≡ true → Contains x.deps d → d.1 ≢ u →
          (o : Option ℕ) → number_of book d.1 ≡ o → numbered set o ≡ true
      by_need u x d p inside named there here dep other None at = refl
      by_need u x d p inside named there here dep other (Some q) at =
          let is = number_is book d.1 q (sym at) in
          let ne : p ≢ q = λ same. other (sym is.1 ∙ ap (id_of book) (sym same) ∙ named) in
          spreads.needs p q (graph_known book w g is_book stands p inside) (sym (ap (numbered set) (number_named book is_book.once p u inside named)) ∙ here)
          (does_need_of book w g stands p (get_or chosen p 0) q x inside (width p inside) is.0 ne there
          (record { name = d.0; there = subst (λ (y : Text × Id). Contains x.deps y) (λ k. (d.0, sym is.1 k)) dep }))

  pub reach_needed : (p : ℕ) → p < length book → IsReached g chosen p → IsNeeded (book_offers book) w s (id_of book p)
  reach_needed p inside reached = record { in_each = λ set spreads. reached.in_each (λ q. set (id_of book q)) (spreads_down set spreads) }

  pub needed_reach : (p : ℕ) → p < length book → IsNeeded (book_offers book) w s (id_of book p) → IsReached g chosen p
  needed_reach p inside needed = record {
    in_each = λ set spreads. sym (ap (numbered set) (number_at book is_book.once p inside)) ∙ needed.in_each (λ u. numbered set (number_of book u)) (spreads_up set spreads);
  }

pub need_is_reach : NeedIsReach
need_is_reach book w g chosen s is_book stands solves selects p inside =
    (reach_needed book w g chosen s is_book stands solves selects p inside, needed_reach book w g chosen s is_book stands solves selects p inside)
