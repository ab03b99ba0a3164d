-- Marking one package more.
use Rattle.std.proofs.Common.{◌≡◌, ◌≢◌, ℕ, ◌+◌, ◌<◌, ◌≤◌, Bool, true, false, cond, ◌||◌, List, [], ◌∷◌, ◌++◌, length, get_or, set, refl, sym, ◌∙◌, ap, arith, inl, inr, eqb, length-append, ◌⊎◌, subst}
use Rattle.std.proofs.lemmas.Bool.{eqb-true, eq-eqb, cases_lt}
use Rattle.std.proofs.lemmas.Bool.Decides.{eqb_tells}
use Rattle.std.proofs.lemmas.List.{get_or-set_same, get_or-set_other, length-set, get_or_append_left, get_or_past}
use Rattle.std.proofs.lemmas.List.Elements.{Contains-append_left, Contains-append_right}
use Rattle.std.proofs.lemmas.List.Sums.{sum_by-set}
use Rattle.std.proofs.Math.Seq.{get_or-append_seam}
use Rattle.std.specs.List.{Contains}
use Rattle.version_graph.specs.Graph.{Graph, packages}
use Rattle.version_graph.specs.Domain.{count_true}
use Rattle.version_graph.proofs.GraphLemmas.{Contains_from_includes, includes_at}
use Rattle.version_graph.proofs.RowLemmas.{count-le, some_true}
use Rattle.raise_pass.specs.Reached.{is_marked, IsUnmarkedBelow, AreListed, Grows}

pub or_true : (b : Bool) → (b || true) ≡ true
or_true true = refl
or_true false = refl

pub or_false : (b : Bool) → (b || false) ≡ b
or_false true = refl
or_false false = refl

pub marked-set : (xs : List Bool) (i : ℕ) → i < length xs → (q : ℕ) → is_marked (set xs i true) q ≡ (is_marked xs q || eqb q i)
unfolding is_marked
marked-set xs i h q = elim (eqb_tells q i) [
  | inl s ↦ let same = s.1 in
      rw same (get_or-set_same xs i true false h ∙ sym (ap (λ b. get_or xs i false || b) (sym (ap (λ x. eqb x i) same) ∙ s.0) ∙ or_true (get_or xs i false)))
  | inr s ↦ get_or-set_other xs i q true false s.1 ∙ sym (ap (λ b. get_or xs q false || b) s.0 ∙ or_false (get_or xs q false))
]

pub counted-set : (xs : List Bool) (i : ℕ) → i < length xs → is_marked xs i ≡ false → count_true (set xs i true) ≡ count_true xs + 1
unfolding is_marked
counted-set xs i h e =
    let s = sum_by-set (λ (x : Bool). cond x 1 0) xs i true false h in
    let same = rw e at s in
    omega (arith, same)

-- there is room for one number more
pub room-left : (g : Graph) (marks : List Bool) (order : List ℕ) (p room : ℕ) → AreListed g marks order → p < packages g → is_marked marks p ≡ false → packages g ≤ room → length order < room
room-left g marks order p room l h e r =
    let more = counted-set marks p (omega (arith, h, l.each)) e in
    let most = count-le (set marks p true) in
    omega (arith, more, most, length-set marks p true, l.each, l.counted, r)

at-seam : (order : List ℕ) (p k : ℕ) → k ≡ length order → get_or (order ++ p ∷ []) k 0 ≡ p
at-seam order p k e = rw e (get_or-append_seam order p [] 0)

contains-last : (order : List ℕ) (p : ℕ) → Contains (order ++ p ∷ []) p
contains-last order p = Contains-append_right order (p ∷ []) p (Contains_from_includes (p ∷ []) p (includes_at (p ∷ []) 0 p (omega arith) refl))

pub known-back : (b c : Bool) → (b || c) ≡ true → (b ≡ true) ⊎ (c ≡ true)
known-back true c e = inl refl
known-back false c e = inr e

-- a package that is marked and listed last
pub listed-more : (g : Graph) (marks new : List Bool) (order more : List ℕ) (p : ℕ) → AreListed g marks order → p < packages g → is_marked marks p ≡ false →
    new ≡ set marks p true → more ≡ order ++ p ∷ [] → AreListed g new more
listed-more g marks new order more p l known e f h =
    let inside : p < length marks = omega (arith, known, l.each) in
    let long = length-append order (p ∷ []) in
    let now : (q : ℕ) → is_marked new q ≡ (is_marked marks q || eqb q p) = λ q. ap (λ m. is_marked m q) f ∙ marked-set marks p inside q in
    let at_old : (k : ℕ) → k < length order → get_or more k 0 ≡ get_or order k 0 = λ k b. ap (λ o. get_or o k 0) h ∙ get_or_append_left order (p ∷ []) 0 k b in
    let at_last : (k : ℕ) → k ≡ length order → get_or more k 0 ≡ p = λ k s. ap (λ o. get_or o k 0) h ∙ at-seam order p k s in
    let count : length more ≡ length order + 1 = ap length h ∙ omega (arith, long) in
    record {
      each = ap length f ∙ length-set marks p true ∙ l.each;
      counted = omega (arith, count, counted-set marks p inside e, l.counted, ap count_true f);
      marked = λ k b. elim (cases_lt k (length order)) [
        | inl s ↦ ap (is_marked new) (at_old k s) ∙ now (get_or order k 0) ∙ ap (λ v. v || eqb (get_or order k 0) p) (l.marked k s)
        | inr s ↦ ap (is_marked new) (at_last k (omega (arith, s, b, count))) ∙ now p ∙ ap (λ v. is_marked marks p || v) (eq-eqb p p refl) ∙ or_true (is_marked marks p)
      ];
      known = λ k b. elim (cases_lt k (length order)) [
        | inl s ↦ (let same = at_old k s in let old = l.known k s in omega (arith, same, old))
        | inr s ↦ (let same = at_last k (omega (arith, s, b, count)) in omega (arith, same, known))
      ];
      listed = λ q is. elim (known-back (is_marked marks q) (eqb q p) (sym (now q) ∙ is)) [
        | inl s ↦ subst (λ o. Contains o q) (sym h) (Contains-append_left order (p ∷ []) q (l.listed q s))
        | inr s ↦ subst (λ o. Contains o q) (sym h) (subst (λ x. Contains (order ++ p ∷ []) x) (sym (eqb-true q p s)) (contains-last order p))
      ];
    }

-- what was marked stays marked, and the list goes on
pub grows-more : (g : Graph) (marks new : List Bool) (order more : List ℕ) (p : ℕ) → AreListed g marks order → p < packages g →
    new ≡ set marks p true → more ≡ order ++ p ∷ [] → Grows marks new order more
grows-more g marks new order more p l known f h = record {
  marks = λ q is. ap (λ m. is_marked m q) f ∙ marked-set marks p (omega (arith, known, l.each)) q ∙ ap (λ v. v || eqb q p) is;
  longer = let long = length-append order (p ∷ []) in let e = ap length h in omega (arith, long, e);
  same = λ k b. ap (λ o. get_or o k 0) h ∙ get_or_append_left order (p ∷ []) 0 k b;
}

pub grows-none : (marks : List Bool) (order : List ℕ) → Grows marks marks order order
grows-none marks order = record { marks = λ p is. is; longer = omega arith; same = λ k b. refl }

-- marking a package that is marked changes nothing
pub marked-same : (marks : List Bool) (p q : ℕ) → is_marked marks p ≡ true → is_marked marks q ≡ (is_marked marks q || eqb q p)
marked-same marks p q e = elim (eqb_tells q p) [
  | inl s ↦ ap (is_marked marks) s.1 ∙ e ∙ sym (ap (λ v. is_marked marks q || v) s.0 ∙ or_true (is_marked marks q))
  | inr s ↦ sym (ap (λ v. is_marked marks q || v) s.0 ∙ or_false (is_marked marks q))
]

-- ---- no marks

pub unmarked-more : (xs ys : List Bool) (i : ℕ) → i < length xs → ys ≡ set xs i false → ((q : ℕ) → q < i → is_marked xs q ≡ false) →
    (q : ℕ) → q < i + 1 → is_marked ys q ≡ false
unfolding is_marked
unmarked-more xs ys i h e none q b = elim (eqb_tells q i) [
  | inl s ↦ ap (λ m. get_or m q false) e ∙ ap (λ k. get_or (set xs i false) k false) s.1 ∙ get_or-set_same xs i false false h
  | inr s ↦ (let ne = s.1 in ap (λ m. get_or m q false) e ∙ get_or-set_other xs i q false false ne ∙ none q (omega (arith, b, ne)))
]

pub unmarked-all : (xs : List Bool) (n : ℕ) → length xs ≡ n → ((q : ℕ) → q < n → is_marked xs q ≡ false) → (q : ℕ) → is_marked xs q ≡ false
unfolding is_marked
unmarked-all xs n e none q = elim (cases_lt q n) [
  | inl s ↦ none q s
  | inr s ↦ get_or_past xs q false (omega (arith, s, e))
]

none-counted : (xs : List Bool) → ((q : ℕ) → is_marked xs q ≡ false) → count_true xs ≡ 0
unfolding is_marked
none-counted xs none = elim (cases_lt 0 (count_true xs)) [
  | inl s ↦ (let t = some_true xs s in let no = none t.0 in let is = t.1 in absurd (cc))
  | inr s ↦ omega (arith, s)
]

pub listed-none : (g : Graph) (marks : List Bool) (order : List ℕ) → length marks ≡ packages g → ((q : ℕ) → is_marked marks q ≡ false) → order ≡ [] → AreListed g marks order
listed-none g marks order each none empty =
    let count : length order ≡ 0 = ap length empty in
    record {
      each = each;
      counted = count ∙ sym (none-counted marks none);
      marked = λ k b. absurd (omega (arith, b, count));
      known = λ k b. absurd (omega (arith, b, count));
      listed = λ p is. let no = none p in absurd (cc);
    }

-- ---- one mark more or less

left-false : (b c : Bool) → (b || c) ≡ false → b ≡ false
left-false true c e = e
left-false false c e = refl

pub unmarked-before : (old new : List Bool) (p : ℕ) → p < length old → new ≡ set old p true → (q : ℕ) → is_marked new q ≡ false → is_marked old q ≡ false
unmarked-before old new p h e q f = left-false (is_marked old q) (eqb q p) (sym (ap (λ m. is_marked m q) e ∙ marked-set old p h q) ∙ f)

pub marked-here : (old new : List Bool) (p : ℕ) → p < length old → new ≡ set old p true → is_marked new p ≡ true
marked-here old new p h e = ap (λ m. is_marked m p) e ∙ marked-set old p h p ∙ ap (λ v. is_marked old p || v) (eq-eqb p p refl) ∙ or_true (is_marked old p)

pub marked-more : (old new : List Bool) (p : ℕ) → p < length old → new ≡ set old p true → (q : ℕ) → is_marked old q ≡ true → is_marked new q ≡ true
marked-more old new p h e q is = ap (λ m. is_marked m q) e ∙ marked-set old p h q ∙ ap (λ v. v || eqb q p) is

-- taking a mark away leaves the others
pub unmarked-other : (old new : List Bool) (p : ℕ) → new ≡ set old p false → (q : ℕ) → q ≢ p → is_marked new q ≡ is_marked old q
unfolding is_marked
unmarked-other old new p e q ne = ap (λ m. get_or m q false) e ∙ get_or-set_other old p q false false ne

pub unmarked-next : (marks : List Bool) (p : ℕ) → is_marked marks p ≡ false → ((q : ℕ) → q < p → is_marked marks q ≡ false) → (q : ℕ) → q < p + 1 → is_marked marks q ≡ false
unmarked-next marks p out none q b = elim (eqb_tells q p) [
  | inl s ↦ ap (is_marked marks) s.1 ∙ out
  | inr s ↦ (let ne = s.1 in none q (omega (arith, b, ne)))
]

pub marked-next : (old new : List Bool) (p : ℕ) → p < length old → new ≡ set old p true → ((q : ℕ) → q < p → is_marked old q ≡ true) → (q : ℕ) → q < p + 1 → is_marked new q ≡ true
marked-next old new p h e all q b = elim (eqb_tells q p) [
  | inl s ↦ ap (is_marked new) s.1 ∙ marked-here old new p h e
  | inr s ↦ (let ne = s.1 in marked-more old new p h e q (all q (omega (arith, b, ne))))
]

-- a mark more leaves what is below it and below the first one
pub below-set : (old new : List Bool) (p first n : ℕ) → new ≡ set old p true → IsUnmarkedBelow first old → n ≤ first → n ≤ p → IsUnmarkedBelow n new
unfolding is_marked
below-set old new p first n e u low less = record {
  none = λ q b.
      let ne : q ≢ p = omega (arith, b, less) in
      ap (λ m. get_or m q false) e ∙ get_or-set_other old p q true false ne ∙ u.none q (omega (arith, b, low));
}
