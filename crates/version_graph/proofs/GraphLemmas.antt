-- How the parts of an instance tell what is forbidden, and who is a neighbour of whom.
use Rattle.std.proofs.Common.{◌≡◌, ◌⊎◌, ℕ, ◌+◌, ◌-◌, ◌<◌, ◌≤◌, Bool, true, false, not, ◌&&◌, ◌||◌, List, [], ◌∷◌, ◌++◌, length, length-append, get_or, set, take, refl, sym, ◌∙◌, subst, ap, arith, inl, inr, eqb, ltb, cond}
use Rattle.std.specs.List.{list_any, range_with_len, Contains}
use Rattle.std.specs.List.Sorted.{IsStrictlyIncreasing}
use Rattle.std.specs.declared.vec.Vec.{Vec}
use Rattle.std.proofs.lemmas.Bool.{or_left, or_right, cases_lt, eq-eqb, eqb-true, ne_eqb, lt-ltb, le-ltb, and_from, and_parts, or_cases, cases_Bool, cases_order}
use Rattle.std.proofs.lemmas.Bool.Decides.{eqb_tells}
use Rattle.std.proofs.lemmas.List.{get_or-map, get_or_read, get_or_default, get_or-take, get_or_append_left, get_or-set_same, get_or-set_other, length-set, length-take-le}
use Rattle.std.proofs.Math.Seq.{get_or-append_seam}
use Rattle.std.proofs.Math.Bool.{or-false}
use Rattle.std.proofs.lemmas.Map.Keys.{below_from_sorted, sorted_from_strictly_increasing}
use Rattle.std.proofs.lemmas.Grind.{get_or_default_zero}
use Rattle.std.proofs.lemmas.List.Folds.{list_any_at, list_any_more, list_any-append, Any-from_list_any}
use Rattle.std.proofs.lemmas.List.FromFn.{length-range_with_len, get_or-range_with_len}
use Rattle.version_graph.specs.Graph.{Graph, packages, states, is_barred, has_pair, is_forbidden, is_offered, are_neighbours, share, neighbour_sum, sum_below, SameGraph, IsBetween, IsGraph, IsListOf}
use Rattle.version_graph.specs.Keys.{Key, pair_at, is_in, is_linked, AreBelow, AreInOrder, ComesFirst}
use Rattle.version_graph.specs.Stored.{rows_of, graph_of, IsKept, IsListed, includes, AreLinked, AreRising, AddsLink, AreNeighbourRows}

-- the row of a list of vectors
pub row-at : {T Z : Type 0} (vs : List (Vec T Z)) (p : ℕ) (v : Vec T Z) → p < length vs → get_or (rows_of vs) p [] ≡ (get_or vs p v).items
row-at vs p v h = get_or-map (λ (x : Vec _ _). x.items) vs p v [] h

pub both_true : (a b : Bool) → (a ≡ true → b ≡ true) → (b ≡ true → a ≡ true) → a ≡ b
both_true true b f g = sym (f refl)
both_true false true f g = g refl
both_true false false f g = refl

-- ---- forbidden pairs

pub forbidden-below : (g : Graph) (p i q j : ℕ) → p < q → is_forbidden g p i q j ≡ has_pair g p i q j
unfolding is_forbidden
forbidden-below g p i q j h = rw (lt-ltb p q h) refl

pub forbidden-above : (g : Graph) (p i q j : ℕ) → q ≤ p → is_forbidden g p i q j ≡ has_pair g q j p i
unfolding is_forbidden
forbidden-above g p i q j h = rw (le-ltb p q h) refl

pub between-from : {Z : Type 0} (g : Graph) (barred : List (Vec Bool Z)) → IsKept g barred → (p i q j : ℕ) → is_forbidden g p i q j ≡ true → IsBetween g p i q j
between-from g barred k p i q j e =
    elim (cases_lt p q) [
      | inl h ↦
          let l = k.listed p i q j (sym (forbidden-below g p i q j h) ∙ e) in
          record { first = omega (arith, l.below, l.known); second = l.known; apart = λ s. absurd (omega (arith, l.below, s)); first_state = l.first_state; second_state = l.second_state }
      | inr h ↦
          let l = k.listed q j p i (sym (forbidden-above g p i q j h) ∙ e) in
          record { first = l.known; second = omega (arith, l.below, l.known); apart = λ s. absurd (omega (arith, l.below, s)); first_state = l.second_state; second_state = l.first_state }
    ]

pub graph-from : {Z : Type 0} (g : Graph) (barred : List (Vec Bool Z)) → IsKept g barred → IsGraph g
graph-from g barred k = record { few = k.few; small = k.small; filled = k.filled; between = between-from g barred k }

-- ---- neighbours

pub in_range : (test : ℕ → Bool) (n i : ℕ) → i < n → test i ≡ true → list_any test (range_with_len 0 n) ≡ true
in_range test n i h e =
    list_any_at test (range_with_len 0 n) i 0 (rw (length-range_with_len 0 n) h)
    (ap test (get_or-range_with_len 0 n i 0 h ∙ omega arith) ∙ e)

pub neighbours_from_forbidden : (g : Graph) (p i q j : ℕ) → IsBetween g p i q j → is_forbidden g p i q j ≡ true → are_neighbours g p q ≡ true
unfolding are_neighbours
neighbours_from_forbidden g p i q j b e =
    in_range (λ a. list_any (λ c. is_forbidden g p a q c) (range_with_len 0 (states g q))) (states g p) i b.first_state
    (in_range (λ c. is_forbidden g p i q c) (states g q) j b.second_state e)

pub forbidden_from_neighbours : (g : Graph) (p q : ℕ) → are_neighbours g p q ≡ true → (i : ℕ) × (j : ℕ) × (is_forbidden g p i q j ≡ true)
unfolding are_neighbours
forbidden_from_neighbours g p q e =
    let a = Any-from_list_any (λ i. list_any (λ j. is_forbidden g p i q j) (range_with_len 0 (states g q))) (range_with_len 0 (states g p)) e in
    let b = Any-from_list_any (λ j. is_forbidden g p a.1 q j) (range_with_len 0 (states g q)) a.4 in
    (a.1, b.1, b.4)

-- ---- the same forbidden pairs

module _ (g h : Graph) (sizes : h.sizes ≡ g.sizes) (same : (p i q j : ℕ) → has_pair h p i q j ≡ has_pair g p i q j) where
  pub forbidden-alike : (p i q j : ℕ) → is_forbidden h p i q j ≡ is_forbidden g p i q j
  unfolding is_forbidden
  forbidden-alike p i q j = λ n. cond (ltb p q) (same p i q j n) (same q j p i n)

  pub neighbours-alike : (p q : ℕ) → are_neighbours h p q ≡ are_neighbours g p q
  unfolding are_neighbours
  neighbours-alike p q = λ n. list_any (λ i. list_any (λ j. forbidden-alike p i q j n) (range_with_len 0 (get_or (sizes n) q 0))) (range_with_len 0 (get_or (sizes n) p 0))

  pub sums-alike : (f : ℕ → ℕ → ℕ) → neighbour_sum h f ≡ neighbour_sum g f
  unfolding neighbour_sum share
  sums-alike f = λ n. sum_below (λ p. sum_below (λ q. cond (neighbours-alike p q n) (f (get_or (sizes n) p 0) (get_or (sizes n) q 0)) 0) p) (length (sizes n))

pub same-on : (a b c : Graph) → SameGraph a b → SameGraph b c → SameGraph a c
same-on a b c x y = record {
  sizes = y.sizes ∙ x.sizes;
  barred = λ p i. y.barred p i ∙ x.barred p i;
  forbidden = λ p i q j. y.forbidden p i q j ∙ x.forbidden p i q j;
}

-- ---- lists of numbers as sets

pub includes_at : (xs : List ℕ) (k x : ℕ) → k < length xs → get_or xs k 0 ≡ x → includes xs x ≡ true
includes_at xs k x h e = list_any_at (λ y. eqb y x) xs k 0 h (eq-eqb _ _ e)

pub Contains_from_includes : (xs : List ℕ) (x : ℕ) → includes xs x ≡ true → Contains xs x
Contains_from_includes xs x e =
    let a = Any-from_list_any (λ y. eqb y x) xs e in
    let same : a.1 ≡ x = eqb-true _ _ a.4 in
    (a.0, a.2, ap (get_or xs a.0) (sym same) ∙ a.3 ∙ same)

pub includes_from_Contains : (xs : List ℕ) (x : ℕ) → Contains xs x → includes xs x ≡ true
includes_from_Contains xs x c = list_any_at (λ y. eqb y x) xs c.0 x c.1 (eq-eqb _ _ c.2)

-- a row that lists the neighbours of p tells whether q is one
pub includes-listed : (test : ℕ → Bool) (xs : List ℕ) → IsListOf test xs → (q : ℕ) → includes xs q ≡ test q
includes-listed test xs l q =
    elim (cases_Bool (test q)) [
      | inl t ↦ includes_from_Contains xs q (l.whole q t) ∙ sym t
      | inr f ↦ elim (cases_Bool (includes xs q)) [
        | inl t ↦
            let c = Contains_from_includes xs q t in
            let here : get_or xs c.0 0 ≡ q = sym (get_or_default_zero xs c.0 q c.1) ∙ c.2 in
            let yes : test q ≡ true = ap test (sym here) ∙ l.sound c.0 c.1 in
            absurd (cc)
        | inr g ↦ g ∙ sym f
      ]
    ]

-- what is forbidden in g is what the list has
pub record IsOfPairs (g : Graph) (pairs : List Key) : Type 0 where
  pub told : (p i q j : ℕ) → has_pair g p i q j ≡ is_in pairs p i q j

pub of-pairs : {Z : Type 0} (sizes : List ℕ) (barred : List (Vec Bool Z)) (pairs : List Key) → IsOfPairs (graph_of sizes barred pairs) pairs
unfolding has_pair
of-pairs sizes barred pairs = record { told = λ p i q j. refl }

-- the pair at a place is listed
there-at : (pairs : List Key) (n : ℕ) (x : Key) → n < length pairs → get_or pairs n x ≡ x → is_in pairs x.0 x.2 x.1 x.3 ≡ true
there-at pairs n x h e =
    let same : (eqb x.0 x.0 && eqb x.2 x.2) && (eqb x.1 x.1 && eqb x.3 x.3) ≡ true =
    and_from _ _ (and_from _ _ (eq-eqb x.0 x.0 refl) (eq-eqb x.2 x.2 refl)) (and_from _ _ (eq-eqb x.1 x.1 refl) (eq-eqb x.3 x.3 refl)) in
    list_any_at (λ (y : Key). (eqb y.0 x.0 && eqb y.2 x.2) && (eqb y.1 x.1 && eqb y.3 x.3)) pairs n x h
    (ap (λ (y : Key). (eqb y.0 x.0 && eqb y.2 x.2) && (eqb y.1 x.1 && eqb y.3 x.3)) e ∙ same)

-- a listed pair of these packages, in either order, is what makes them neighbours
linked-neighbours : {Z : Type 0} (g : Graph) (barred : List (Vec Bool Z)) (pairs : List Key) → IsOfPairs g pairs → IsKept g barred → (p q : ℕ) →
    is_linked pairs p q ≡ true → are_neighbours g p q ≡ true
linked-neighbours g barred pairs o k p q e =
    let a = Any-from_list_any (λ (x : Key). (eqb x.0 p && eqb x.1 q) || (eqb x.0 q && eqb x.1 p)) pairs e in
    let x = a.1 in
    let listed : has_pair g x.0 x.2 x.1 x.3 ≡ true = o.told x.0 x.2 x.1 x.3 ∙ there-at pairs a.0 x a.2 a.3 in
    let l = k.listed x.0 x.2 x.1 x.3 listed in
    elim (or_cases (eqb x.0 p && eqb x.1 q) _ a.4) [
      | inl h ↦
          let parts = and_parts (eqb x.0 p) (eqb x.1 q) h in
          let f : is_forbidden g x.0 x.2 x.1 x.3 ≡ true = forbidden-below g x.0 x.2 x.1 x.3 l.below ∙ listed in
          let n = neighbours_from_forbidden g x.0 x.2 x.1 x.3 (between-from g barred k x.0 x.2 x.1 x.3 f) f in
          subst (λ v. are_neighbours g p v ≡ true) (eqb-true _ _ parts.1) (subst (λ u. are_neighbours g u x.1 ≡ true) (eqb-true _ _ parts.0) n)
      | inr h ↦
          let parts = and_parts (eqb x.0 q) (eqb x.1 p) h in
          let f : is_forbidden g x.1 x.3 x.0 x.2 ≡ true = forbidden-above g x.1 x.3 x.0 x.2 (omega (arith, l.below)) ∙ listed in
          let n = neighbours_from_forbidden g x.1 x.3 x.0 x.2 (between-from g barred k x.1 x.3 x.0 x.2 f) f in
          subst (λ u. are_neighbours g u q ≡ true) (eqb-true _ _ parts.1) (subst (λ v. are_neighbours g x.1 v ≡ true) (eqb-true _ _ parts.0) n)
    ]

pair-linked : (pairs : List Key) (p i q j : ℕ) → is_in pairs p i q j ≡ true → (is_linked pairs p q ≡ true) × (is_linked pairs q p ≡ true)
pair-linked pairs p i q j e =
    let a = Any-from_list_any (λ (k : Key). (eqb k.0 p && eqb k.2 i) && (eqb k.1 q && eqb k.3 j)) pairs e in
    let x = a.1 in
    let parts = and_parts (eqb x.0 p && eqb x.2 i) _ a.4 in
    let first = (and_parts (eqb x.0 p) _ parts.0).0 in
    let second = (and_parts (eqb x.1 q) _ parts.1).0 in
    let here : (eqb x.0 p && eqb x.1 q) ≡ true = and_from _ _ first second in (
      list_any_at (λ (k : Key). (eqb k.0 p && eqb k.1 q) || (eqb k.0 q && eqb k.1 p)) pairs a.0 x a.2
          (ap (λ (k : Key). (eqb k.0 p && eqb k.1 q) || (eqb k.0 q && eqb k.1 p)) a.3 ∙ or_left _ _ here),
      list_any_at (λ (k : Key). (eqb k.0 q && eqb k.1 p) || (eqb k.0 p && eqb k.1 q)) pairs a.0 x a.2
          (ap (λ (k : Key). (eqb k.0 q && eqb k.1 p) || (eqb k.0 p && eqb k.1 q)) a.3 ∙ or_right _ _ here),
    )

neighbours-linked : (g : Graph) (pairs : List Key) → IsOfPairs g pairs → (p q : ℕ) → are_neighbours g p q ≡ true → is_linked pairs p q ≡ true
neighbours-linked g pairs o p q e =
    let f = forbidden_from_neighbours g p q e in
    elim (cases_lt p q) [
      | inl h ↦ (pair-linked pairs p f.0 q f.1 (sym (forbidden-below g p f.0 q f.1 h ∙ o.told p f.0 q f.1) ∙ f.2)).0
      | inr h ↦ (pair-linked pairs q f.1 p f.0 (sym (forbidden-above g p f.0 q f.1 h ∙ o.told q f.1 p f.0) ∙ f.2)).1
    ]

-- rows that are linked by the listed pairs list the neighbours
pub list-from_linked : {Z : Type 0} (g : Graph) (barred : List (Vec Bool Z)) (pairs : List Key) → IsOfPairs g pairs → IsKept g barred → (rows : List (List ℕ)) →
    AreLinked (packages g) pairs rows → (p : ℕ) → p < packages g → IsListOf (are_neighbours g p) (get_or rows p [])
list-from_linked g barred pairs o k rows l p known = record {
  rising = l.rising p known;
  sound = λ n h. linked-neighbours g barred pairs o k p (get_or (get_or rows p []) n 0)
      (sym (l.linked p (get_or (get_or rows p []) n 0) known) ∙ includes_at (get_or rows p []) n _ h refl);
  whole = λ q e. Contains_from_includes (get_or rows p []) q (l.linked p q known ∙ neighbours-linked g pairs o p q e);
}

pub rows-from_linked : {Z : Type 0} (g : Graph) (barred : List (Vec Bool Z)) (pairs : List Key) → IsOfPairs g pairs → IsKept g barred → (rows : List (List ℕ)) →
    AreLinked (packages g) pairs rows → AreNeighbourRows g rows
rows-from_linked g barred pairs o k rows l = record {
  each = l.each;
  lists = list-from_linked g barred pairs o k rows l;
  inside = λ p n known h.
      let f = forbidden_from_neighbours g p (get_or (get_or rows p []) n 0) ((list-from_linked g barred pairs o k rows l p known).sound n h) in
      (between-from g barred k p f.0 (get_or (get_or rows p []) n 0) f.1 f.2).second;
}

-- each listed pair is one of states that there are
pub pair-listed : {Z : Type 0} (g : Graph) (barred : List (Vec Bool Z)) (pairs : List Key) → IsOfPairs g pairs → IsKept g barred → (n : ℕ) → n < length pairs →
    IsListed g (pair_at pairs n).0 (pair_at pairs n).2 (pair_at pairs n).1 (pair_at pairs n).3
pair-listed g barred pairs o k n h =
    let x = pair_at pairs n in
    k.listed x.0 x.2 x.1 x.3 (o.told x.0 x.2 x.1 x.3 ∙ there-at pairs n x h (get_or_default pairs n x (0, 0, 0, 0) h))

pub below-from : {Z : Type 0} (g : Graph) (barred : List (Vec Bool Z)) (pairs : List Key) → IsOfPairs g pairs → IsKept g barred → AreBelow (packages g) pairs
below-from g barred pairs o k = record { at = λ n h. let l = pair-listed g barred pairs o k n h in (l.below, l.known) }

-- ---- states forbidden alone

-- a value that was read from the rows is whether the state is forbidden alone
pub barred-read : {Z : Type 0} (g : Graph) (barred : List (Vec Bool Z)) → g.barred ≡ rows_of barred → IsKept g barred →
    (p i : ℕ) → p < packages g → i < states g p → (v : Vec Bool Z) → v ≡ get_or barred p v →
    (b : Bool) → b ≡ get_or v.items i b → b ≡ is_barred g p i
unfolding is_barred
barred-read g barred held k p i known state v at b e =
    let fits : p < length barred = omega (arith, k.each) in
    let row : get_or (rows_of barred) p [] ≡ v.items = row-at barred p v fits ∙ ap (λ (x : Vec Bool _). x.items) (sym at) in
    let wide : i < length v.items = omega (arith, k.wide p known, ap length row) in
    get_or_read v.items i b wide e false ∙ ap (λ r. get_or r i false) (sym row) ∙ ap (λ rs. get_or (get_or rs p []) i false) (sym held)

-- a state that there is is offered where it isn't forbidden alone
pub offered-from_barred : (g : Graph) (p i : ℕ) → p < packages g → i < states g p → is_offered g p i ≡ not (is_barred g p i)
unfolding is_offered
offered-from_barred g p i known state = rw (lt-ltb p (packages g) known, lt-ltb i (states g p) state) refl

-- ---- linking rows

list-any-or : (xs ys : List ℕ) (x : ℕ) → includes (xs ++ ys) x ≡ (includes xs x || includes ys x)
list-any-or xs ys x = list_any-append (λ y. eqb y x) xs ys

pub eqb-sym : (a b : ℕ) → eqb a b ≡ eqb b a
eqb-sym a b = elim (eqb_tells a b) [ inl t ↦ t.0 ∙ sym (eq-eqb b a (sym t.1)) | inr t ↦ t.0 ∙ sym (ne_eqb b a (λ e. t.1 (sym e))) ]

pub link-found : (xs : List ℕ) (q i : ℕ) → i < length xs → get_or xs i 0 ≡ q → (x : ℕ) → includes xs x ≡ (includes xs x || eqb x q)
link-found xs q i h e x =
    elim (eqb_tells x q) [
      | inl t ↦ let there = includes_at xs i x h (e ∙ sym t.1) in there ∙ sym (ap (λ b. b || eqb x q) there)
      | inr t ↦ sym (ap (λ b. includes xs x || b) t.0 ∙ no_more (includes xs x))
    ]
  where
    no_more : (a : Bool) → (a || false) ≡ a
    no_more true = refl
    no_more false = refl

-- a number that goes to the end
pub link-last : (xs : List ℕ) (q : ℕ) → (x : ℕ) → includes (xs ++ q ∷ []) x ≡ (includes xs x || eqb x q)
link-last xs q x = list-any-or xs (q ∷ []) x ∙ ap (λ b. includes xs x || b) (or-false (eqb q x) ∙ eqb-sym q x)

pub rising-last : (xs : List ℕ) (q : ℕ) → IsStrictlyIncreasing xs → (0 < length xs → get_or xs (length xs - 1) 0 < q) → IsStrictlyIncreasing (xs ++ q ∷ [])
rising-last xs q up last k h =
    let long : length (xs ++ q ∷ []) ≡ length xs + 1 = length-append xs (q ∷ []) in
    let a : get_or (xs ++ q ∷ []) k 0 ≡ get_or xs k 0 = get_or_append_left xs (q ∷ []) 0 k (omega (arith, h, long)) in
    elim (cases_lt (k + 1) (length xs)) [
      | inl l ↦
          let b : get_or (xs ++ q ∷ []) (k + 1) 0 ≡ get_or xs (k + 1) 0 = get_or_append_left xs (q ∷ []) 0 (k + 1) l in
          omega (arith, a, b, up k l)
      | inr l ↦
          let e : k + 1 ≡ length xs = omega (arith, h, long, l) in
          let b : get_or (xs ++ q ∷ []) (k + 1) 0 ≡ q = ap (λ n. get_or (xs ++ q ∷ []) n 0) e ∙ get_or-append_seam xs q [] 0 in
          let f : length xs - 1 ≡ k = omega (arith, e) in
          omega (arith, a, b, ap (λ n. get_or xs n 0) f, last (omega (arith, e)))
    ]

-- what a row ends with is in it
pub last-there : (xs : List ℕ) (q : ℕ) → 0 < length xs → get_or xs (length xs - 1) 0 ≡ q → (x : ℕ) → includes xs x ≡ (includes xs x || eqb x q)
last-there xs q h e = link-found xs q (length xs - 1) (omega (arith, h)) e

-- a number that is no lower than those of a row, and isn't its last one, is above its last one
pub above-last : (xs : List ℕ) (q : ℕ) → ((x : ℕ) → includes xs x ≡ true → x ≤ q) → (0 < length xs → get_or xs (length xs - 1) 0 ≡ q → ⊥) → 0 < length xs →
    get_or xs (length xs - 1) 0 < q
above-last xs q top apart h =
    let v = get_or xs (length xs - 1) 0 in
    let le : v ≤ q = top v (includes_at xs (length xs - 1) v (omega (arith, h)) refl) in
    elim (cases_order v q) [
      | inl e ↦ absurd (apart h e)
      | inr o ↦ elim o [
        | inl l ↦ l
        | inr l ↦ absurd (omega (arith, l, le))
      ]
    ]

pub increasing-ordered : (xs : List ℕ) → IsStrictlyIncreasing xs → (i j : ℕ) → i ≤ j → j < length xs → get_or xs i 0 ≤ get_or xs j 0
increasing-ordered xs up i j h l =
    elim (cases_order i j) [
      | inl e ↦ omega (arith, ap (λ n. get_or xs n 0) e)
      | inr o ↦ elim o [
        | inl m ↦ let b : get_or xs i 0 < get_or xs j 0 = below_from_sorted xs i j 0 (sorted_from_strictly_increasing xs up) m l in omega arith
        | inr m ↦ absurd (omega arith)
      ]
    ]

-- ---- rows that are written one at a time

pub rising-set : (d : List (List ℕ)) (p : ℕ) (r : List ℕ) → p < length d → AreRising d → IsStrictlyIncreasing r → AreRising (set d p r)
rising-set d p r known up new = record {
  rising = λ q h.
      elim (eqb_tells q p) [
        | inl t ↦ subst (λ (x : List ℕ). IsStrictlyIncreasing x) (sym (ap (λ n. get_or (set d p r) n []) t.1 ∙ get_or-set_same d p r [] known)) new
        | inr t ↦ subst (λ (x : List ℕ). IsStrictlyIncreasing x) (sym (get_or-set_other d p q r [] t.1)) (up.rising q (omega (arith, h, length-set d p r)))
      ];
}

pub added-set : (d : List (List ℕ)) (p q : ℕ) (r : List ℕ) → p < length d → ((x : ℕ) → includes r x ≡ (includes (get_or d p []) x || eqb x q)) → AddsLink d (set d p r) p q
added-set d p q r known new = record {
  linked = λ a b h.
      elim (eqb_tells a p) [
        | inl t ↦
            ap (λ x. includes x b) (ap (λ n. get_or (set d p r) n []) t.1 ∙ get_or-set_same d p r [] known) ∙ new b
            ∙ ap (λ n. includes (get_or d n []) b || eqb b q) (sym t.1)
            ∙ ap (λ v. includes (get_or d a []) b || (v && eqb b q)) (sym t.0)
        | inr t ↦
            ap (λ x. includes x b) (get_or-set_other d p a r [] t.1) ∙ sym (or_none (includes (get_or d a []) b))
            ∙ ap (λ v. includes (get_or d a []) b || (v && eqb b q)) (sym t.0)
      ];
}
  where
    or_none : (a : Bool) → (a || false) ≡ a
    or_none true = refl
    or_none false = refl

joined : (z a b c d : Bool) → ((z || (a && b)) || (c && d)) ≡ (z || ((a && b) || (d && c)))
joined true a b c d = refl
joined false true true c d = refl
joined false true false true true = refl
joined false true false true false = refl
joined false true false false true = refl
joined false true false false false = refl
joined false false b true true = refl
joined false false b true false = refl
joined false false b false true = refl
joined false false b false false = refl

pub linked-step : (n : ℕ) (pairs : List Key) (k : ℕ) (r s t : List (List ℕ)) → k < length pairs → AreLinked n (take k pairs) r →
    length t ≡ length r → length s ≡ length r → AreRising t →
    AddsLink r s (pair_at pairs k).0 (pair_at pairs k).1 → AddsLink s t (pair_at pairs k).1 (pair_at pairs k).0 → AreLinked n (take (k + 1) pairs) t
linked-step n pairs k r s t h l long mid up one two = record {
  each = long ∙ l.each;
  rising = λ p below. up.rising p (omega (arith, below, long, l.each));
  linked = λ a b below.
      let p = (pair_at pairs k).0 in
      let q = (pair_at pairs k).1 in
      two.linked a b (omega (arith, below, mid, l.each))
      ∙ ap (λ v. v || (eqb a q && eqb b p)) (one.linked a b (omega (arith, below, l.each)))
      ∙ ap (λ v. (v || (eqb a p && eqb b q)) || (eqb a q && eqb b p)) (l.linked a b below)
      ∙ joined (is_linked (take k pairs) a b) (eqb a p) (eqb b q) (eqb a q) (eqb b p)
      ∙ ap (λ v. is_linked (take k pairs) a b || ((v && eqb b q) || (eqb b p && eqb a q))) (eqb-sym a p)
      ∙ ap (λ v. is_linked (take k pairs) a b || ((eqb p a && v) || (eqb b p && eqb a q))) (eqb-sym b q)
      ∙ ap (λ v. is_linked (take k pairs) a b || ((eqb p a && eqb q b) || (v && eqb a q))) (eqb-sym b p)
      ∙ ap (λ v. is_linked (take k pairs) a b || ((eqb p a && eqb q b) || (eqb p b && v))) (eqb-sym a q)
      ∙ sym (list_any_more (λ (x : Key). (eqb x.0 a && eqb x.1 b) || (eqb x.0 b && eqb x.1 a)) pairs k (0, 0, 0, 0) h);
}

pub rising-from_linked : (n : ℕ) (pairs : List Key) (rows : List (List ℕ)) → AreLinked n pairs rows → AreRising rows
rising-from_linked n pairs rows l = record { rising = λ p h. l.rising p (omega (arith, h, l.each)) }

-- no row is linked by no pair
pub linked-none : (n : ℕ) (rows : List (List ℕ)) → length rows ≡ n → ((p : ℕ) → p < n → get_or rows p [] ≡ []) → AreLinked n [] rows
linked-none n rows each empty = record {
  each = each;
  rising = λ p h k below. absurd (omega (arith, below, ap length (empty p h)));
  linked = λ p q h. ap (λ r. includes r q) (empty p h);
}

-- ---- pairs in the order of their packages

-- of the first k pairs one is of these packages, and it comes first
module _ (n : ℕ) (pairs : List Key) (k : ℕ) (below : AreBelow n pairs) (ordered : AreInOrder pairs) (known : k < length pairs) where
  earlier : (a b : ℕ) → is_linked (take k pairs) a b ≡ true →
      (x : Key) × ((x.0 ≡ a) × (x.1 ≡ b) ⊎ (x.0 ≡ b) × (x.1 ≡ a)) × (x.0 < x.1) × ComesFirst x (pair_at pairs k)
  earlier a b e =
      let t = Any-from_list_any (λ (x : Key). (eqb x.0 a && eqb x.1 b) || (eqb x.0 b && eqb x.1 a)) (take k pairs) e in
      let x = t.1 in
      let place : t.0 < k = omega (arith, t.2, length-take-le k pairs (omega (arith, known))) in
      let same : pair_at pairs t.0 ≡ x = get_or_default pairs t.0 (0, 0, 0, 0) x (omega (arith, place, known)) ∙ sym (get_or-take k pairs t.0 x place) ∙ t.3 in (
        x,
        elim (or_cases (eqb x.0 a && eqb x.1 b) _ t.4) [
          | inl h ↦ let parts = and_parts (eqb x.0 a) (eqb x.1 b) h in inl (eqb-true _ _ parts.0, eqb-true _ _ parts.1)
          | inr h ↦ let parts = and_parts (eqb x.0 b) (eqb x.1 a) h in inr (eqb-true _ _ parts.0, eqb-true _ _ parts.1)
        ],
        subst (λ (y : Key). y.0 < y.1) same (below.at t.0 (omega (arith, place, known))).0,
        subst (λ (y : Key). ComesFirst y (pair_at pairs k)) same (ordered.order t.0 k place known),
      )

  pub top-first : (rows : List (List ℕ)) → AreLinked n (take k pairs) rows → (x : ℕ) → includes (get_or rows (pair_at pairs k).0 []) x ≡ true → x ≤ (pair_at pairs k).1
  top-first rows l x e =
      let p = (pair_at pairs k).0 in
      let here = below.at k known in
      let y = earlier p x (sym (l.linked p x (omega (arith, here))) ∙ e) in
      elim y.1 [
        | inl s ↦ elim y.3 [ inl m ↦ absurd (omega (arith, m, s.0)) | inr m ↦ omega (arith, m.1, s.1) ]
        | inr s ↦ omega (arith, s.0, s.1, y.2, here.0)
      ]

  pub top-second : (rows more : List (List ℕ)) → AreLinked n (take k pairs) rows → AddsLink rows more (pair_at pairs k).0 (pair_at pairs k).1 →
      (x : ℕ) → includes (get_or more (pair_at pairs k).1 []) x ≡ true → x ≤ (pair_at pairs k).0
  top-second rows more l adds x e =
      let p = (pair_at pairs k).0 in
      let q = (pair_at pairs k).1 in
      let here = below.at k known in
      elim (or_cases (includes (get_or rows q []) x) (eqb q p && eqb x q) (sym (adds.linked q x (omega (arith, here.1, l.each))) ∙ e)) [
        | inr s ↦ absurd (omega (arith, eqb-true q p (and_parts (eqb q p) _ s).0, here.0))
        | inl s ↦
            let y = earlier q x (sym (l.linked q x here.1) ∙ s) in
            elim y.1 [
              | inl m ↦ elim y.3 [ inl f ↦ absurd (omega (arith, f, m.0, here.0)) | inr f ↦ absurd (omega (arith, f.0, m.0, here.0)) ]
              | inr m ↦ elim y.3 [ inl f ↦ omega (arith, f, m.0) | inr f ↦ omega (arith, f.0, m.0) ]
            ]
      ]
