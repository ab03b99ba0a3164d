-- A tree over the pruned instance refutes the instance.
use Rattle.std.proofs.Common.{◌≡◌, ℕ, ◌<◌, true, false, ◌==◌, [], ◌∷◌, ◌++◌, refl, sym, ◌∙◌, subst, ap, inl, inr}
use Rattle.std.proofs.lemmas.Bool.{and_parts, and_from, or_parts, or_from, or_cases, or_left, or_right, eq-eqb, eqb-true, eqb-false, ne_eqb}
use Rattle.std.proofs.lemmas.List.{map-append}
use Rattle.version_graph.specs.Graph.{Graph, packages, states, is_offered}
use Rattle.version_graph.specs.Family.{InClosure, agrees, under}
use Rattle.version_graph.specs.Part.{Part, package_of, state_of}
use Rattle.graph_pruning.specs.Pruned.{Pruning, IsUnpruned}
use Rattle.graph_pruning.specs.Reduced.{IsReduction, AreKnown, before, PruningKeepsClosures}
use Rattle.graph_pruning.proofs.PruneLemmas.{closed_known, left_closed}
use Rattle.graph_pruning.proofs.ReduceLemmas.{home, package_same, number}
use Rattle.refutation_log.specs.Tree.{Tree, Children, leaf, branch, done, child, has_standing}
use Rattle.refutation_log.specs.Refutes.{Prefix, is_chosen, Refutes, EachRefutes}
use Rattle.refutation_log.specs.Renumbered.{renumbered, renumbered_each}

known_push : (h : Graph) (prefix : Prefix) (p i : ℕ) → AreKnown h prefix → p < packages h → i < states h p → AreKnown h (prefix ++ (p, i) ∷ [])
known_push h [] p i known package_known state = (package_known, state, tt)
known_push h (c ∷ cs) p i known package_known state = (known.0, known.1, known_push h cs p i known.2 package_known state)

before-push : (b : Part) (prefix : Prefix) (p i : ℕ) → before b (prefix ++ (p, i) ∷ []) ≡ before b prefix ++ (package_of b p, state_of b p i) ∷ []
before-push b prefix p i = map-append (λ (c : ℕ × ℕ). (package_of b c.0, state_of b c.0 c.1)) prefix ((p, i) ∷ [])

module _ (law : PruningKeepsClosures) (g : Graph) (pr : Pruning) (h : Graph) (b : Part) (r : IsReduction g pr h b) (own : Pruning) (u : IsUnpruned h own) where
  -- a package that isn't chosen isn't by its number before
  free_before : (prefix : Prefix) (p : ℕ) → AreKnown h prefix → p < packages h → is_chosen prefix p ≡ false → is_chosen (before b prefix) (package_of b p) ≡ false
  free_before [] p known here free = refl
  free_before (c ∷ cs) p known here free =
      let parts = or_parts (c.0 == p) (is_chosen cs p) free in
      or_from (package_of b c.0 == package_of b p) (is_chosen (before b cs) (package_of b p))
      (ne_eqb (package_of b c.0) (package_of b p) (λ same. eqb-false c.0 p parts.0 (package_same g pr h b r c.0 p known.0 here same)))
      (free_before cs p known.2 here parts.1)

  state_stands : (p i : ℕ) → p < packages h → i < states h p → pr.standing (package_of b p) (state_of b p i) ≡ state_of b p i
  state_stands p i known state = (r.reduced.states_sound p i known state).itself

  state_known : (p i : ℕ) → p < packages h → i < states h p → state_of b p i < states g (package_of b p)
  state_known p i known state =
      (closed_known g pr.closed (package_of b p) (state_of b p i) r.pruning.closure (left_closed g pr (package_of b p) (state_of b p i) (r.reduced.states_sound p i known state).inside)).1

  -- what stands for a child's state stands for it by its number before
  covered_before : (prefix : Prefix) (p n : ℕ) (cs : Children) → p < packages h → EachRefutes h own prefix p cs → has_standing cs (own.standing p) n ≡ true →
      has_standing (renumbered_each b p cs) (pr.standing (package_of b p)) (state_of b p n) ≡ true
  covered_before prefix p n done known each e = e
  covered_before prefix p n (child i t cs) known each e =
      elim (or_cases (own.standing p i == n) (has_standing cs (own.standing p) n) e) [
        | inl here ↦
            let same : i ≡ n = sym (u.alone p i) ∙ eqb-true _ _ here in
            or_left (pr.standing (package_of b p) (state_of b p i) == state_of b p n) (has_standing (renumbered_each b p cs) (pr.standing (package_of b p)) (state_of b p n))
            (eq-eqb _ _ (state_stands p i known each.0 ∙ ap (state_of b p) same))
        | inr there ↦
            or_right (pr.standing (package_of b p) (state_of b p i) == state_of b p n) (has_standing (renumbered_each b p cs) (pr.standing (package_of b p)) (state_of b p n))
            (covered_before prefix p n cs known each.2 there)
      ]

  -- a state that is closed under the choices by their numbers before is closed where nothing is chosen
  closed_first : (prefix : Prefix) (p i : ℕ) → InClosure g (under g prefix) p i → pr.closed p i ≡ true
  closed_first prefix p i k =
      r.pruning.closure.whole p i (record {
        family = k.family;
        stable = k.stable;
        here = k.here;
        within = record { at = λ q j there. and_from (is_offered g q j) true (and_parts (is_offered g q j) (agrees prefix q j) (k.within.at q j there)).0 refl };
      })

  mutual
    pub refutes_before : (prefix : Prefix) → AreKnown h prefix → (t : Tree) → Refutes h own prefix t → Refutes g pr (before b prefix) (renumbered b t)
    refutes_before prefix chosen leaf e = (law g pr h b r prefix chosen).empty.0 e
    refutes_before prefix chosen (branch p cs) e = (
      home g pr h b r p e.0,
      r.reduced.sound p e.0,
      free_before prefix p chosen e.0 e.2,
      record {
        covers = λ i k.
            let n = number g pr h b r p i e.0 (closed_first (before b prefix) (package_of b p) i k) in
            let low = (law g pr h b r prefix chosen).down p i n.0 e.0 n.1 (sym n.2) k in
            ap (has_standing (renumbered_each b p cs) (pr.standing (package_of b p))) (sym n.2)
            ∙ covered_before prefix p n.0 cs e.0 e.4 (ap (has_standing cs (own.standing p)) (sym (u.alone p n.0)) ∙ e.3.covers n.0 low);
      },
      each_before prefix chosen p e.0 cs e.4,
    )

    each_before : (prefix : Prefix) → AreKnown h prefix → (p : ℕ) → p < packages h → (cs : Children) → EachRefutes h own prefix p cs → EachRefutes g pr (before b prefix) (package_of b p) (renumbered_each b p cs)
    each_before prefix chosen p known done e = tt
    each_before prefix chosen p known (child i t cs) e = (
      state_known p i known e.0,
      subst (λ x. Refutes g pr x (renumbered b t)) (before-push b prefix p i) (refutes_before (prefix ++ (p, i) ∷ []) (known_push h prefix p i chosen known e.0) t e.1),
      each_before prefix chosen p known cs e.2,
    )
