-- Packages that can't be raised alone, when another package's state changes.
use Rattle.std.proofs.Common.{◌≡◌, ◌≢◌, ℕ, ◌<◌, ◌≤◌, Bool, true, false, List, length, get_or, set, sym, ◌∙◌, ap, subst, arith, inl, inr}
use Rattle.std.proofs.lemmas.Bool.{cases_eq, cases_lt, cases_Bool}
use Rattle.std.proofs.lemmas.List.{get_or-set_other}
use Rattle.std.specs.List.{Contains}
use Rattle.version_graph.specs.Graph.{Graph, packages, is_forbidden}
use Rattle.version_graph.proofs.GraphLemmas.{forbidden-below, forbidden-above}
use Rattle.raise_pass.specs.Finishing.{CanRaise}
use Rattle.raise_pass.specs.Reached.{is_marked}
use Rattle.raise_pass.specs.Scratch.{AreStuck}
use Rattle.raise_pass.specs.Changed.{IsNextRaise}
use Rattle.raise_pass.proofs.ReachLemmas.{place-of}

-- a pair is forbidden whichever state is named first
pub forbidden-flip : (g : Graph) (p i q j : ℕ) → p ≢ q → is_forbidden g p i q j ≡ is_forbidden g q j p i
forbidden-flip g p i q j ne = elim (cases_lt p q) [
  | inl s ↦ forbidden-below g p i q j s ∙ sym (forbidden-above g q j p i (omega (arith, s)))
  | inr s ↦ forbidden-above g p i q j s ∙ sym (forbidden-below g q j p i (omega (arith, s, ne)))
]

-- a state that is forbidden with no listed neighbour's state is forbidden with none
pub allowed-all : (g : Graph) (chosen neighbours : List ℕ) (p j q : ℕ) → ((i r k : ℕ) → is_forbidden g p i r k ≡ true → Contains neighbours r) →
    ((k : ℕ) → k < length neighbours → is_forbidden g p j (get_or neighbours k 0) (get_or chosen (get_or neighbours k 0) 0) ≡ false) →
    is_forbidden g p j q (get_or chosen q 0) ≡ false
allowed-all g chosen neighbours p j q whole met = elim (cases_Bool (is_forbidden g p j q (get_or chosen q 0))) [
  | inl t ↦
      let c = place-of neighbours q (whole j q (get_or chosen q 0) t) in
      let out = subst (λ x. is_forbidden g p j x (get_or chosen x 0) ≡ false) c.2 (met c.0 c.1) in
      absurd (cc)
  | inr f ↦ f
]

apart-unmarked : (marks : List Bool) (p q : ℕ) → is_marked marks p ≡ true → is_marked marks q ≡ false → q ≢ p
apart-unmarked marks p q is out e = let other = ap (is_marked marks) e in absurd (cc)

-- only p and its neighbours come loose when p changes
pub stuck-changed : (g : Graph) (old new : List ℕ) (p j : ℕ) (loose marks : List Bool) (neighbours : List ℕ) → AreStuck g old loose → new ≡ set old p j →
    ((q : ℕ) → is_marked marks q ≡ false → is_marked loose q ≡ false) → is_marked marks p ≡ true →
    ((k : ℕ) → k < length neighbours → is_marked marks (get_or neighbours k 0) ≡ true) → ((i r k : ℕ) → is_forbidden g p i r k ≡ true → Contains neighbours r) →
    AreStuck g new marks
stuck-changed g old new p j loose marks neighbours s e less here met whole = record {
  stuck = λ q i out can.
      let ne = apart-unmarked marks p q here out in
      let other : (r : ℕ) → r ≢ p → get_or new r 0 ≡ get_or old r 0 = λ r nr. ap (λ xs. get_or xs r 0) e ∙ get_or-set_other old p r j 0 nr in
      s.stuck q i (less q out) (record {
        known = can.known;
        greater = (let same = other q ne in let more = can.greater in omega (arith, same, more));
        present = can.present;
        offered = can.offered;
        allowed = λ r kr nr. elim (cases_eq r p) [
          | inl same ↦ elim (cases_Bool (is_forbidden g q i r (get_or old r 0))) [
            | inl t ↦
                let turned : is_forbidden g p (get_or old r 0) q i ≡ true = sym (forbidden-flip g q i p (get_or old r 0) ne) ∙ ap (λ x. is_forbidden g q i x (get_or old r 0)) (sym same) ∙ t in
                let c = place-of neighbours q (whole (get_or old r 0) q i turned) in
                let is = subst (λ x. is_marked marks x ≡ true) c.2 (met c.0 c.1) in
                absurd (cc)
            | inr f ↦ f
          ]
          | inr apart ↦ ap (λ x. is_forbidden g q i r x) (sym (other r apart)) ∙ can.allowed r kr nr
        ];
      });
}

-- a package that was found stuck loses its mark
pub stuck-more : (g : Graph) (chosen : List ℕ) (loose marks : List Bool) (p : ℕ) → AreStuck g chosen loose → ((j : ℕ) → CanRaise g chosen p j → ⊥) →
    ((q : ℕ) → q ≢ p → is_marked marks q ≡ is_marked loose q) → AreStuck g chosen marks
stuck-more g chosen loose marks p s none other = record {
  stuck = λ q j out can. elim (cases_eq q p) [
    | inl same ↦ none j (subst (λ x. CanRaise g chosen x j) same can)
    | inr ne ↦ s.stuck q j (sym (other q ne) ∙ out) can
  ];
}

-- where no package is marked, none can be raised
pub none-loose : (g : Graph) (chosen : List ℕ) (loose : List Bool) (n : ℕ) → AreStuck g chosen loose → ((q : ℕ) → q < n → is_marked loose q ≡ false) → packages g ≤ n →
    (p j : ℕ) → CanRaise g chosen p j → ⊥
none-loose g chosen loose n s none all p j can = s.stuck p j (none p (let k = can.known in omega (arith, k, all))) can

-- the first marked package that can be raised is the least that can be raised
pub next-raise : (g : Graph) (chosen : List ℕ) (loose : List Bool) (p j : ℕ) → AreStuck g chosen loose → ((q : ℕ) → q < p → is_marked loose q ≡ false) →
    CanRaise g chosen p j → ((i : ℕ) → CanRaise g chosen p i → i ≤ j) → IsNextRaise g chosen p j
next-raise g chosen loose p j s none can most = record {
  can = can;
  least = λ q i other. elim (cases_lt q p) [
    | inl less ↦ absurd (s.stuck q i (none q less) other)
    | inr more ↦ more
  ];
  greatest = most;
}
