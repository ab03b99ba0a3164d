-- A tree that refutes leaves no solution.
use Rattle.std.proofs.Common.{◌≡◌, ℕ, ◌<◌, Bool, true, false, not, ◌||◌, ◌==◌, List, [], ◌∷◌, ◌++◌, length, get_or, set, ap, refl, sym, ◌∙◌, inl, inr, arith}
use Rattle.std.proofs.lemmas.Bool.{and_from, or_left, or_right, or_parts, eqb-true, eq-eqb, or_cases, cases_eq, both_ways, ne_eqb}
use Rattle.std.proofs.lemmas.List.{get_or-set_same, get_or-set_other}
use Rattle.std.proofs.lemmas.List.Folds.{list_all-append}
use Rattle.version_graph.specs.Graph.{Graph, packages, IsSolution}
use Rattle.version_graph.specs.Family.{agrees, SolutionIsClosed}
use Rattle.graph_pruning.specs.Pruned.{Pruning, IsPruningOf}
use Rattle.graph_pruning.specs.Exchange.{AreAbsent, EqualStatesExchange}
use Rattle.refutation_log.specs.Tree.{Tree, Children, leaf, branch, done, child, has_standing}
use Rattle.refutation_log.specs.Refutes.{Refutes, EachRefutes, Prefix, is_chosen}

-- the prefix makes choices of the solution alone
pub record IsFollowed (chosen : List ℕ) (prefix : Prefix) : Type 0 where
  pub agree : (p : ℕ) → agrees prefix p (get_or chosen p 0) ≡ true

pub followed_at_first : (chosen : List ℕ) → IsFollowed chosen []
followed_at_first chosen = record { agree = λ p. refl }

-- each state of a package that isn't chosen agrees with the choices
agrees_free : (prefix : Prefix) (p i : ℕ) → is_chosen prefix p ≡ false → agrees prefix p i ≡ true
agrees_free [] p i free = refl
agrees_free (c ∷ cs) p i free =
    let parts = or_parts (c.0 == p) (is_chosen cs p) free in
    and_from (not (p == c.0) || (i == c.1)) (agrees cs p i) (apart (p == c.0) refl) (agrees_free cs p i parts.1)
  where
    apart : (b : Bool) → p == c.0 ≡ b → (not b || (i == c.1)) ≡ true
    apart true same = absurd (both_ways _ (or_parts (c.0 == p) (is_chosen cs p) free).0 (eq-eqb _ _ (sym (eqb-true _ _ same))))
    apart false same = refl

-- one state exchanged, and one choice more
follow : (chosen : List ℕ) (prefix : Prefix) (p i : ℕ) → p < length chosen → is_chosen prefix p ≡ false → IsFollowed chosen prefix → IsFollowed (set chosen p i) (prefix ++ (p, i) ∷ [])
follow chosen prefix p i known free f = record {
  agree = λ q. rw list_all-append (elim (cases_eq q p) [
    | inl same ↦
        let at : get_or (set chosen p i) q 0 ≡ i = ap (λ x. get_or (set chosen p i) x 0) same ∙ get_or-set_same chosen p i 0 known in
        and_from (agrees prefix q (get_or (set chosen p i) q 0)) _ (ap (λ x. agrees prefix x (get_or (set chosen p i) q 0)) same ∙ agrees_free prefix p _ free)
        (and_from (not (q == p) || (get_or (set chosen p i) q 0 == i)) true (or_right (not (q == p)) (get_or (set chosen p i) q 0 == i) (eq-eqb _ _ at)) refl)
    | inr apart ↦
        and_from (agrees prefix q (get_or (set chosen p i) q 0)) _ (ap (agrees prefix q) (get_or-set_other chosen p q i 0 apart) ∙ f.agree q)
        (and_from (not (q == p) || (get_or (set chosen p i) q 0 == i)) true (or_left (not (q == p)) (get_or (set chosen p i) q 0 == i) (ap not (ne_eqb q p apart))) refl)
  ]);
}

module _ (closed : SolutionIsClosed) (exchange : EqualStatesExchange) (g : Graph) (pr : Pruning) (prunes : IsPruningOf g pr) where
  mutual
    pub refuted : (chosen : List ℕ) → IsSolution g chosen → AreAbsent g pr chosen → (prefix : Prefix) → IsFollowed chosen prefix → (t : Tree) → Refutes g pr prefix t → ⊥
    refuted chosen s absent prefix f leaf r =
        r.none (get_or chosen r.place 0) (closed g prefix chosen s (λ p _. f.agree p) r.place r.known)
    refuted chosen s absent prefix f (branch p cs) r =
        each_refuted chosen s absent prefix f p r.0 r.1 r.2 cs r.4 (r.3.covers _ (closed g prefix chosen s (λ q _. f.agree q) p r.0))

    each_refuted : (chosen : List ℕ) → IsSolution g chosen → AreAbsent g pr chosen → (prefix : Prefix) → IsFollowed chosen prefix → (p : ℕ) → p < packages g → pr.kept p ≡ true → is_chosen prefix p ≡ false →
        (cs : Children) → EachRefutes g pr prefix p cs → has_standing cs (pr.standing p) (pr.standing p (get_or chosen p 0)) ≡ true → ⊥
    each_refuted chosen s absent prefix f p known kept free done r e = cc
    each_refuted chosen s absent prefix f p known kept free (child i t cs) r e =
        elim (or_cases _ _ e) [
          | inl here ↦
              let x = exchange g pr prunes chosen s absent p i known kept (eqb-true _ _ here) in
              refuted (set chosen p i) x.solves x.absent (prefix ++ (p, i) ∷ []) (follow chosen prefix p i (omega (arith, known, s.each)) free f) t r.1
          | inr there ↦ each_refuted chosen s absent prefix f p known kept free cs r.2 there
        ]
