-- What is marked is reached, and at the end all that is reached is marked.
use Rattle.std.proofs.Common.{◌≡◌, ℕ, ◌+◌, ◌<◌, ◌≤◌, Bool, true, false, ◌||◌, List, length, get_or, sym, ◌∙◌, ap, subst, arith, inl, inr, eqb, ltb}
use Rattle.std.proofs.lemmas.Bool.{eqb-true, cases_eq, ltb-true, and_parts, eq-eqb}
use Rattle.std.proofs.lemmas.List.{get_or_default}
use Rattle.std.specs.List.{Contains}
use Rattle.version_graph.specs.Graph.{Graph, packages, states, is_root, does_need, IsListOf}
use Rattle.version_graph.specs.Needed.{AreNeeds, need_row}
use Rattle.raise_pass.specs.Finishing.{IsReached, IsReachedSet}
use Rattle.raise_pass.specs.Reached.{is_marked, AreListed, AreReached, AreSpread, Grows}
use Rattle.raise_pass.proofs.MarkLemmas.{known-back, or_true}

pub grows-trans : (a b c : List Bool) (o p q : List ℕ) → Grows a b o p → Grows b c p q → Grows a c o q
grows-trans a b c o p q f h = record {
  marks = λ x is. h.marks x (f.marks x is);
  longer = (let one = f.longer in let two = h.longer in omega (arith, one, two));
  same = λ k b. (let one = f.longer in h.same k (omega (arith, one, b)) ∙ f.same k b);
}

-- a root is reached
pub root-reached : (g : Graph) (chosen : List ℕ) (p : ℕ) → is_root g p ≡ true → IsReached g chosen p
root-reached g chosen p e = record { in_each = λ set s. s.roots p e }

-- what a reached package needs is reached
pub need-reached : (g : Graph) (chosen : List ℕ) (p q : ℕ) → p < packages g → IsReached g chosen p → does_need g p (get_or chosen p 0) q ≡ true → IsReached g chosen q
need-reached g chosen p q known r e = record { in_each = λ set s. s.needs p q known (r.in_each set s) e }

-- one reached package more is marked
pub reached-more : (g : Graph) (chosen : List ℕ) (old new : List Bool) (p : ℕ) → AreReached g chosen old → IsReached g chosen p →
    ((q : ℕ) → is_marked new q ≡ (is_marked old q || eqb q p)) → AreReached g chosen new
reached-more g chosen old new p r one now = record {
  sound = λ q is. elim (known-back (is_marked old q) (eqb q p) (sym (now q) ∙ is)) [
    | inl s ↦ r.sound q s
    | inr s ↦ subst (IsReached g chosen) (sym (eqb-true q p s)) one
  ];
}

pub reached-none : (g : Graph) (chosen : List ℕ) (marks : List Bool) → ((q : ℕ) → is_marked marks q ≡ false) → AreReached g chosen marks
reached-none g chosen marks none = record { sound = λ q is. let no = none q in absurd (cc) }

-- what was marked for the first packages of the list stays marked
pub spread-grows : (g : Graph) (chosen : List ℕ) (marks new : List Bool) (order more : List ℕ) (count : ℕ) → AreSpread g chosen marks order count → count ≤ length order →
    Grows marks new order more → AreSpread g chosen new more count
spread-grows g chosen marks new order more count s few f = record {
  needs = λ k q b there e.
      let inside : k < length order = omega (arith, b, few) in
      f.marks q (s.needs k q b inside (subst (λ x. does_need g x (get_or chosen x 0) q ≡ true) (f.same k inside) e));
}

-- the place of a listed number
pub place-of : (xs : List ℕ) (x : ℕ) → Contains xs x → (k : ℕ) × (k < length xs) × (get_or xs k 0 ≡ x)
place-of xs x c = (c.0, c.1, get_or_default xs c.0 0 x c.1 ∙ c.2)

-- with what the package at the next place needs marked, one place more is done
pub spread-more : (g : Graph) (chosen : List ℕ) (marks : List Bool) (order : List ℕ) (next p : ℕ) (row : List ℕ) → AreSpread g chosen marks order next →
    get_or order next 0 ≡ p → IsListOf (does_need g p (get_or chosen p 0)) row → ((k : ℕ) → k < length row → is_marked marks (get_or row k 0) ≡ true) →
    AreSpread g chosen marks order (next + 1)
spread-more g chosen marks order next p row s at list met = record {
  needs = λ k q b there e. elim (cases_eq k next) [
    | inl same ↦
        let here : get_or order k 0 ≡ p = ap (λ x. get_or order x 0) same ∙ at in
        let c = place-of row q (list.whole q (subst (λ x. does_need g x (get_or chosen x 0) q ≡ true) here e)) in
        subst (λ x. is_marked marks x ≡ true) c.2 (met c.0 c.1)
    | inr ne ↦ s.needs k q (omega (arith, b, ne)) there e
  ];
}

-- at the end the marked packages are those that are reached
pub reached-set : (g : Graph) (chosen : List ℕ) (roots : List ℕ) (marks : List Bool) (order : List ℕ) (count : ℕ) → IsListOf (is_root g) roots →
    ((k : ℕ) → k < length roots → is_marked marks (get_or roots k 0) ≡ true) → AreListed g marks order → AreReached g chosen marks →
    AreSpread g chosen marks order count → length order ≤ count → IsReachedSet g chosen (is_marked marks)
reached-set g chosen roots marks order count list met l r s whole = record {
  sound = r.sound;
  spreads = record {
    roots = λ p e. let c = place-of roots p (list.whole p e) in subst (λ x. is_marked marks x ≡ true) c.2 (met c.0 c.1);
    needs = λ p q known is e.
        let c = place-of order p (l.listed p is) in
        let inside = c.1 in
        s.needs c.0 q (omega (arith, inside, whole)) inside (subst (λ x. does_need g x (get_or chosen x 0) q ≡ true) (sym c.2) e);
  };
}

-- a needed package is one of the instance
pub need-known : (g : Graph) (p i q : ℕ) → does_need g p i q ≡ true → q < packages g
need-known g p i q e = ltb-true q (packages g) (and_parts (ltb q (packages g)) _ e).0

-- the row of the chosen state lists what it needs
pub needed-list : (g : Graph) (needs : List (List (List ℕ))) (chosen : List ℕ) (p state : ℕ) (row : List ℕ) → AreNeeds g needs → p < packages g → get_or chosen p 0 < states g p →
    state ≡ get_or chosen p 0 → row ≡ need_row needs p state → IsListOf (does_need g p (get_or chosen p 0)) row
needed-list g needs chosen p state row n known small same e =
    subst (IsListOf (does_need g p (get_or chosen p 0))) (sym (e ∙ ap (need_row needs p) same)) (n.rows p (get_or chosen p 0) known small)

-- marks that grow keep the marked ones of a list
pub met-more : (old new : List Bool) (xs : List ℕ) (k x : ℕ) → x ≡ get_or xs k 0 → ((q : ℕ) → is_marked new q ≡ (is_marked old q || eqb q x)) →
    ((j : ℕ) → j < k → is_marked old (get_or xs j 0) ≡ true) → (j : ℕ) → j < k + 1 → is_marked new (get_or xs j 0) ≡ true
met-more old new xs k x at now met j b = elim (cases_eq j k) [
  | inl e ↦
      let y = get_or xs j 0 in
      let same : y ≡ x = ap (λ n. get_or xs n 0) e ∙ sym at in
      now y ∙ ap (λ v. is_marked old y || v) (eq-eqb y x same) ∙ or_true (is_marked old y)
  | inr ne ↦ now (get_or xs j 0) ∙ ap (λ v. v || eqb (get_or xs j 0) x) (met j (omega (arith, b, ne)))
]
