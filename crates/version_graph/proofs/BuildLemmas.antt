-- What forbidding a state or a pair does to the parts of an instance that is being made.
use Rattle.std.proofs.Common.{◌≡◌, ℕ, zero, suc, ◌<◌, ◌≤◌, Bool, true, false, not, cond, ◌&&◌, ◌||◌, List, [], ◌∷◌, ◌++◌, length, get_or, set, refl, sym, subst, ◌∙◌, ap, arith, inl, inr, eqb, ltb, sum, replicate}
use Rattle.std.proofs.Common.{Result, Ok, Err, OnOk, is_ok}
use Rattle.std.proofs.lemmas.List.{length-replicate}
use Rattle.std.specs.List.{list_any}
use Rattle.std.specs.declared.vec.Vec.{Vec}
use Rattle.std.proofs.lemmas.Bool.{cases_lt, eqb-true, and_parts, or_cases, cases_Bool}
use Rattle.std.proofs.lemmas.Bool.Decides.{eqb_tells}
use Rattle.std.proofs.lemmas.List.{length-set, length-map, get_or_past}
use Rattle.std.proofs.lemmas.List.Folds.{list_any-append}
use Rattle.version_graph.specs.Graph.{Graph, is_barred, has_pair, is_forbidden, is_key, is_state, are_neighbours, neighbour_sum, SameGraph, IsListOf, IsOpen}
use Rattle.version_graph.specs.Keys.{Key, is_in}
use Rattle.version_graph.specs.Links.{Linked, link_at, number_at}
use Rattle.version_graph.specs.Stored.{rows_of, graph_of, IsKept, IsStored}
use Rattle.version_graph.specs.Domain.{has}
use Rattle.version_graph.proofs.RowLemmas.{written, rows-written, row-written, has-written}
use Rattle.version_graph.proofs.TrailLemmas.{or-flipped}
use Rattle.version_graph.proofs.GraphLemmas.{forbidden-alike, neighbours-alike, sums-alike, eqb-sym, forbidden-below, forbidden-above}

module _ {Z : Type 0} (sizes : List ℕ) (barred : List (Vec Bool Z)) (pairs : List Key) (k : IsKept (graph_of sizes barred pairs) barred)
    (p i : ℕ) (known : p < length sizes) (v w : Vec Bool Z) (at : v ≡ get_or barred p v) (new : w.items ≡ set v.items i true) where
  rows : rows_of (set barred p w) ≡ written (rows_of barred) p i true
  rows = rows-written barred (rows_of barred) p i true v w refl
      (omega (arith, known, k.each, length-map-rows)) at new
    where
      length-map-rows : length (rows_of barred) ≡ length barred
      length-map-rows = length-map barred (λ (x : Vec Bool Z). x.items)

  pub state-kept : IsKept (graph_of sizes (set barred p w) pairs) (set barred p w)
  unfolding has_pair
  state-kept = record {
    few = k.few;
    small = k.small;
    filled = k.filled;
    listed = λ a b c d e. let l = k.listed a b c d e in record { below = l.below; known = l.known; first_state = l.first_state; second_state = l.second_state };
    each = length-set barred p w ∙ k.each;
    wide = λ q h. ap (λ r. length (get_or r q [])) rows ∙ row-written (rows_of barred) p i true q ∙ k.wide q h;
  }

  pub state-barred : i < get_or sizes p 0 → (q j : ℕ) → is_barred (graph_of sizes (set barred p w) pairs) q j ≡ (is_barred (graph_of sizes barred pairs) q j || is_state q j p i)
  unfolding is_barred has
  state-barred state q j =
      ap (λ r. has r q j) rows
      ∙ has-written (rows_of barred) p i true q j (omega (arith, known, k.each, length-map barred (λ (x : Vec Bool Z). x.items))) (omega (arith, state, k.wide p known))
      ∙ or-flipped (is_state q j p i) (has (rows_of barred) q j)

-- what isn't listed stays so
pub same-forbidden : {Z : Type 0} (sizes : List ℕ) (barred other : List (Vec Bool Z)) (pairs : List Key) (a b c d : ℕ) →
    is_forbidden (graph_of sizes other pairs) a b c d ≡ is_forbidden (graph_of sizes barred pairs) a b c d
unfolding is_forbidden has_pair
same-forbidden sizes barred other pairs a b c d = refl

pub same-barred : {Z : Type 0} (sizes : List ℕ) (barred : List (Vec Bool Z)) (pairs more : List Key) (a b : ℕ) →
    is_barred (graph_of sizes barred more) a b ≡ is_barred (graph_of sizes barred pairs) a b
unfolding is_barred
same-barred sizes barred pairs more a b = refl

-- pairs that are listed alike make the same
module _ {Z : Type 0} (sizes : List ℕ) (barred : List (Vec Bool Z)) (pairs more : List Key) (same : (p i q j : ℕ) → is_in more p i q j ≡ is_in pairs p i q j) where
  listed-alike : (p i q j : ℕ) → has_pair (graph_of sizes barred more) p i q j ≡ has_pair (graph_of sizes barred pairs) p i q j
  unfolding has_pair
  listed-alike = same

  pub same-graph : SameGraph (graph_of sizes barred pairs) (graph_of sizes barred more)
  unfolding is_barred
  same-graph = record {
    sizes = refl;
    barred = λ p i. refl;
    forbidden = forbidden-alike (graph_of sizes barred pairs) (graph_of sizes barred more) refl listed-alike;
  }

  pub same-sums : (f : ℕ → ℕ → ℕ) → neighbour_sum (graph_of sizes barred more) f ≡ neighbour_sum (graph_of sizes barred pairs) f
  same-sums = sums-alike (graph_of sizes barred pairs) (graph_of sizes barred more) refl listed-alike

  pub kept-alike : IsKept (graph_of sizes barred pairs) barred → IsKept (graph_of sizes barred more) barred
  kept-alike k = record {
    few = k.few;
    small = k.small;
    filled = k.filled;
    each = k.each;
    wide = k.wide;
    listed = λ a b c d e. let l = k.listed a b c d (sym (listed-alike a b c d) ∙ e) in record { below = l.below; known = l.known; first_state = l.first_state; second_state = l.second_state };
  }

  pub stored-alike : (links : List Linked) (total : ℕ) → IsStored (graph_of sizes barred pairs) barred links total → IsStored (graph_of sizes barred more) barred links total
  stored-alike links total s =
      let g = graph_of sizes barred pairs in
      let h = graph_of sizes barred more in
      record {
        kept = kept-alike s.kept;
        each = s.each;
        counted = s.counted;
        lists = λ p known.
            let near : are_neighbours g p ≡ are_neighbours h p = λ n q. sym (neighbours-alike g h refl listed-alike p q) n in
            subst (λ test. IsListOf test (link_at links p).numbers) near (s.lists p known);
        tables = λ p known.
            let t = s.tables p known in
            record {
              rows = t.rows;
              wide = t.wide;
              bits = λ k i j a b c. t.bits k i j a b c ∙ ap not (sym (forbidden-alike g h refl listed-alike p i (number_at (link_at links p) k) j));
            };
      }

-- a pair is named in its order
pub key-turned : (p i q j a b c d : ℕ) → ((eqb p a && eqb i b) && (eqb q c && eqb j d)) ≡ is_key a b c d p i q j
key-turned p i q j a b c d = λ k. (eqb-sym p a k && eqb-sym i b k) && (eqb-sym q c k && eqb-sym j d k)

or-none : (a : Bool) → (a || false) ≡ a
or-none true = refl
or-none false = refl

-- the list has the pair besides
pub pair-added : {Z : Type 0} (sizes : List ℕ) (barred : List (Vec Bool Z)) (pairs more : List Key) (p i q j : ℕ) → more ≡ pairs ++ (p, q, i, j) ∷ [] →
    (a b c d : ℕ) → has_pair (graph_of sizes barred more) a b c d ≡ (has_pair (graph_of sizes barred pairs) a b c d || is_key a b c d p i q j)
unfolding has_pair
pair-added sizes barred pairs more p i q j e a b c d =
    ap (list_any (λ k. (eqb k.0 a && eqb k.2 b) && (eqb k.1 c && eqb k.3 d))) e
    ∙ list_any-append (λ (k : Key). (eqb k.0 a && eqb k.2 b) && (eqb k.1 c && eqb k.3 d)) pairs ((p, q, i, j) ∷ [])
    ∙ ap (λ x. list_any (λ (k : Key). (eqb k.0 a && eqb k.2 b) && (eqb k.1 c && eqb k.3 d)) pairs || x) (or-none _ ∙ key-turned p i q j a b c d)

pub pair-kept : {Z : Type 0} (sizes : List ℕ) (barred : List (Vec Bool Z)) (pairs more : List Key) (p i q j : ℕ) → IsKept (graph_of sizes barred pairs) barred →
    p < q → q < length sizes → i < get_or sizes p 0 → j < get_or sizes q 0 →
    ((a b c d : ℕ) → has_pair (graph_of sizes barred more) a b c d ≡ (has_pair (graph_of sizes barred pairs) a b c d || is_key a b c d p i q j)) →
    IsKept (graph_of sizes barred more) barred
pair-kept sizes barred pairs more p i q j k below known first second added = record {
  few = k.few;
  small = k.small;
  filled = k.filled;
  each = k.each;
  wide = k.wide;
  listed = λ a b c d e. elim (or_cases (has_pair (graph_of sizes barred pairs) a b c d) (is_key a b c d p i q j) (sym (added a b c d) ∙ e)) [
    | inl h ↦ let l = k.listed a b c d h in record { below = l.below; known = l.known; first_state = l.first_state; second_state = l.second_state }
    | inr h ↦
        let parts = and_parts (eqb a p && eqb b i) _ h in
        let one = and_parts (eqb a p) _ parts.0 in
        let two = and_parts (eqb c q) _ parts.1 in
        let ap1 = eqb-true _ _ one.0 in
        let ap2 = eqb-true _ _ two.0 in
        record {
          below = omega (arith, ap1, ap2, below);
          known = omega (arith, ap2, known);
          first_state = omega (arith, eqb-true _ _ one.1, ap (λ n. get_or sizes n 0) ap1, first);
          second_state = omega (arith, eqb-true _ _ two.1, ap (λ n. get_or sizes n 0) ap2, second);
        }
  ];
}

never : (x y u v : ℕ) (b d : Bool) → (x ≡ u → y ≡ v → ⊥) → ((eqb x u && b) && (eqb y v && d)) ≡ false
never x y u v b d clash =
    elim (eqb_tells x u) [
      | inr s ↦ ap (λ z. (z && b) && (eqb y v && d)) s.0
      | inl s ↦ elim (eqb_tells y v) [
        | inr t ↦ ap (λ z. (eqb x u && b) && (z && d)) t.0 ∙ dead (eqb x u && b)
        | inl t ↦ absurd (clash s.1 t.1)
      ]
    ]
  where
    dead : (a : Bool) → (a && false) ≡ false
    dead true = refl
    dead false = refl

or_right_none : (a b c : Bool) → c ≡ false → (a || b) ≡ (a || (b || c))
or_right_none true b c e = refl
or_right_none false true c e = refl
or_right_none false false c e = sym e

or_left_none : (a b c : Bool) → b ≡ false → (a || c) ≡ (a || (b || c))
or_left_none true b c e = refl
or_left_none false b c e = ap (λ x. x || c) (sym e)

and_flip : (a b : Bool) → (a && b) ≡ (b && a)
and_flip true true = refl
and_flip true false = refl
and_flip false true = refl
and_flip false false = refl

-- a pair that is listed in its order is forbidden in both
pub forbidden-added : (g h : Graph) (p i q j : ℕ) → p < q →
    ((a b c d : ℕ) → has_pair h a b c d ≡ (has_pair g a b c d || is_key a b c d p i q j)) →
    (a b c d : ℕ) → is_forbidden h a b c d ≡ (is_forbidden g a b c d || (is_key a b c d p i q j || is_key a b c d q j p i))
forbidden-added g h p i q j below added a b c d =
    elim (cases_lt a c) [
      | inl l ↦
          forbidden-below h a b c d l ∙ added a b c d
          ∙ or_right_none (has_pair g a b c d) (is_key a b c d p i q j) (is_key a b c d q j p i) (never a c q p (eqb b j) (eqb d i) (λ e f. omega (arith, e, f, l, below)))
          ∙ ap (λ x. x || (is_key a b c d p i q j || is_key a b c d q j p i)) (sym (forbidden-below g a b c d l))
      | inr l ↦
          forbidden-above h a b c d l ∙ added c d a b
          ∙ ap (λ x. has_pair g c d a b || x) (and_flip (eqb c p && eqb d i) (eqb a q && eqb b j))
          ∙ or_left_none (has_pair g c d a b) (is_key a b c d p i q j) (is_key a b c d q j p i) (never a c p q (eqb b i) (eqb d j) (λ e f. omega (arith, e, f, l, below)))
          ∙ ap (λ x. x || (is_key a b c d p i q j || is_key a b c d q j p i)) (sym (forbidden-above g a b c d l))
    ]

pub ok-then : {T E : Type 0} (r : Result T E) (P : Type 0) → is_ok r ≡ true → OnOk r P → P
ok-then (Ok x) P e h = h
ok-then (Err x) P e h = cc

get_or-open : (n i : ℕ) → get_or (replicate n false) i false ≡ false
get_or-open zero i = get_or_past [] i false (omega arith)
get_or-open (suc n) zero = refl
get_or-open (suc n) (suc i) = get_or-open n i

module _ {Z : Type 0} (sizes : List ℕ) (barred : List (Vec Bool Z)) (pairs : List Key) (none : pairs ≡ []) (each : length barred ≡ length sizes)
    (rows : (p : ℕ) → p < length sizes → get_or (rows_of barred) p [] ≡ replicate (get_or sizes p 0) false) where
  pub open-open : IsOpen (graph_of sizes barred pairs)
  unfolding is_barred is_forbidden has_pair
  open-open = record {
    barred = λ p i. elim (cases_lt p (length sizes)) [
      | inl h ↦ ap (λ r. get_or r i false) (rows p h) ∙ get_or-open (get_or sizes p 0) i
      | inr h ↦ ap (λ r. get_or r i false) (get_or_past (rows_of barred) p [] (omega (arith, h, each, length-map barred (λ (x : Vec Bool Z). x.items)))) ∙ get_or_past [] i false (omega arith)
    ];
    forbidden = λ a b c d. elim (cases_Bool (ltb a c)) [
      | inl h ↦ ap (λ ks. is_forbidden (graph_of sizes barred ks) a b c d) none ∙ cond_same (ltb a c)
      | inr h ↦ ap (λ ks. is_forbidden (graph_of sizes barred ks) a b c d) none ∙ cond_same (ltb a c)
    ];
  }
    where
      cond_same : (x : Bool) → cond x false false ≡ false
      cond_same true = refl
      cond_same false = refl

  pub open-kept : length sizes ≤ 4096 → sum sizes ≤ 65536 → ((p : ℕ) → p < length sizes → 0 < get_or sizes p 0) → IsKept (graph_of sizes barred pairs) barred
  unfolding has_pair
  open-kept few small filled = record {
    few = few;
    small = small;
    filled = filled;
    each = each;
    listed = λ a b c d e. let no : has_pair (graph_of sizes barred pairs) a b c d ≡ false = ap (λ ks. has_pair (graph_of sizes barred ks) a b c d) none in absurd (cc);
    wide = λ p h. ap length (rows p h) ∙ length-replicate (get_or sizes p 0) false;
  }

pub on-ok : {T E : Type 0} (r : Result T E) (P Q : Type 0) → (P → Q) → OnOk r P → OnOk r Q
on-ok (Ok x) P Q f h = f h
on-ok (Err x) P Q f h = h
