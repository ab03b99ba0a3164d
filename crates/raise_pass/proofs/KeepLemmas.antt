-- A raised package that needs all that it needed before: what was reached is reached.
use Rattle.std.proofs.Common.{◌≡◌, ◌≢◌, ℕ, ◌<◌, Bool, true, false, not, ◌&&◌, ◌||◌, List, length, get_or, set, refl, sym, ◌∙◌, ap, subst, arith, inl, inr, eqb, ltb}
use Rattle.std.proofs.lemmas.Bool.{cases_eq, and_parts, lt-ltb, ne_eqb, eq-eqb}
use Rattle.std.proofs.lemmas.List.{get_or-set_same, get_or-set_other}
use Rattle.version_graph.specs.Graph.{Graph, packages, states, last, is_root, is_barred, is_offered, is_forbidden, does_need, IsListOf}
use Rattle.version_graph.specs.Needed.{AreNeeds, need_row}
use Rattle.version_graph.proofs.GraphLemmas.{offered-from_barred}
use Rattle.raise_pass.specs.Finishing.{Spreads, IsReached, IsTrimmed, CanRaise}
use Rattle.raise_pass.specs.Changed.{KeepsNeeds}
use Rattle.raise_pass.proofs.MarkLemmas.{known-back}
use Rattle.raise_pass.proofs.ReachLemmas.{place-of}
use Rattle.raise_pass.proofs.TrimLemmas.{not-true}

-- ---- what was reached stays reached

-- a set that has the roots and what its packages need now had what they needed before
spreads-before : (g : Graph) (old new : List ℕ) (p i j : ℕ) (kept : ℕ → Bool) → p < packages g → get_or new p 0 ≡ j → ((q : ℕ) → q ≢ p → get_or new q 0 ≡ get_or old q 0) →
    i ≡ get_or old p 0 → KeepsNeeds g p i j → Spreads g new kept → Spreads g old kept
spreads-before g old new p i j kept inside here other at k s = record {
  roots = s.roots;
  needs = λ a q known is need. elim (cases_eq a p) [
    | inl same ↦
        let before : does_need g p i q ≡ true = ap (λ x. does_need g p x q) at ∙ subst (λ x. does_need g x (get_or old x 0) q ≡ true) same need in
        elim (known-back (does_need g p j q) (is_root g q) (k.kept q before)) [
          | inl still ↦ s.needs p q inside (subst (λ x. kept x ≡ true) same is) (ap (λ x. does_need g p x q) here ∙ still)
          | inr root ↦ s.roots q root
        ]
    | inr ne ↦ s.needs a q known is (ap (λ x. does_need g a x q) (other a ne) ∙ need)
  ];
}

pub keeps-trimmed : (g : Graph) (old new : List ℕ) (p i j : ℕ) → length old ≡ packages g → IsTrimmed g old → CanRaise g old p j → new ≡ set old p j →
    i ≡ get_or old p 0 → KeepsNeeds g p i j → IsTrimmed g new
keeps-trimmed g old new p i j each t can e at k =
    let known = can.known in
    let inside : p < length old = omega (arith, known, each) in
    let here : get_or new p 0 ≡ j = ap (λ xs. get_or xs p 0) e ∙ get_or-set_same old p j 0 inside in
    let other : (q : ℕ) → q ≢ p → get_or new q 0 ≡ get_or old q 0 = λ q ne. ap (λ xs. get_or xs q 0) e ∙ get_or-set_other old p q j 0 ne in
    let stays : (q : ℕ) → IsReached g old q → IsReached g new q = λ q r. record { in_each = λ kept s. r.in_each kept (spreads-before g old new p i j kept known here other at k s) } in
    record {
      reached = λ q within present. elim (cases_eq q p) [
        | inl same ↦
            let up = can.greater in
            let top = can.present in
            let ne : get_or old p 0 ≢ last g p = omega (arith, up, top) in
            stays q (subst (IsReached g old) (sym same) (t.reached p known ne))
        | inr ne ↦ stays q (t.reached q within (λ l. present (other q ne ∙ l)))
      ];
    }

-- ---- what is needed

pub need-apart : (g : Graph) (p i q : ℕ) → does_need g p i q ≡ true → q ≢ p
need-apart g p i q e same =
    let is = eq-eqb q p same in
    let parts = and_parts (not (eqb q p)) (is_forbidden g p i q (last g q)) (and_parts (ltb q (packages g)) _ e).1 in
    let isnt = not-true (eqb q p) parts.0 in
    absurd (cc)

twice : (b : Bool) → not (not b) ≡ b
twice true = refl
twice false = refl

need-told : (known same forbidden : Bool) → known ≡ true → same ≡ false → forbidden ≡ (known && (not same && forbidden))
need-told true false forbidden k s = refl
need-told true true forbidden k s = absurd (cc)
need-told false same forbidden k s = absurd (cc)

-- a package is needed where its absent state is forbidden
pub need-from_forbidden : (g : Graph) (p j q : ℕ) → q < packages g → q ≢ p → is_forbidden g p j q (last g q) ≡ does_need g p j q
need-from_forbidden g p j q known ne = need-told (ltb q (packages g)) (eqb q p) (is_forbidden g p j q (last g q)) (lt-ltb q (packages g) known) (ne_eqb q p ne)

root-told : (known offered barred : Bool) → known ≡ true → offered ≡ not barred → not offered ≡ (known && barred)
root-told true true true k o = sym o
root-told true true false k o = refl
root-told true false true k o = refl
root-told true false false k o = sym o
root-told false offered barred k o = absurd (cc)

-- a root is a package whose absent state isn't offered
pub root-from_offered : (g : Graph) (q : ℕ) → q < packages g → 0 < states g q → not (is_offered g q (last g q)) ≡ is_root g q
root-from_offered g q known some =
    root-told (ltb q (packages g)) (is_offered g q (last g q)) (is_barred g q (last g q)) (lt-ltb q (packages g) known) (offered-from_barred g q (last g q) known (omega (arith, some)))

-- a package is needed, or is a root, where its absent state isn't allowed or isn't offered
pub wanted-told : (g : Graph) (p j q absent : ℕ) (allowed offered : Bool) → q < packages g → q ≢ p → 0 < states g q → absent ≡ last g q →
    allowed ≡ not (is_forbidden g p j q absent) → offered ≡ is_offered g q absent → (not allowed || not offered) ≡ (does_need g p j q || is_root g q)
wanted-told g p j q absent allowed offered known ne some at a o =
    let need : not allowed ≡ does_need g p j q = ap not (a ∙ ap (λ i. not (is_forbidden g p j q i)) at) ∙ twice (is_forbidden g p j q (last g q)) ∙ need-from_forbidden g p j q known ne in
    let root : not offered ≡ is_root g q = ap not (o ∙ ap (is_offered g q) at) ∙ root-from_offered g q known some in
    ap (λ b. b || not offered) need ∙ ap (λ b. does_need g p j q || b) root

-- ---- going over what the old state needs

-- the list is of what the state i of p needs
pub row-list : (g : Graph) (needs : List (List (List ℕ))) (p i : ℕ) (row : List ℕ) → AreNeeds g needs → p < packages g → i < states g p → row ≡ need_row needs p i → IsListOf (does_need g p i) row
row-list g needs p i row n known small e = subst (IsListOf (does_need g p i)) (sym e) (n.rows p i known small)

pub keeps-all : (g : Graph) (p i j : ℕ) (row : List ℕ) → IsListOf (does_need g p i) row →
    ((k : ℕ) → k < length row → (does_need g p j (get_or row k 0) || is_root g (get_or row k 0)) ≡ true) → KeepsNeeds g p i j
keeps-all g p i j row list met = record {
  kept = λ q need. let c = place-of row q (list.whole q need) in subst (λ x. (does_need g p j x || is_root g x) ≡ true) c.2 (met c.0 c.1);
}
