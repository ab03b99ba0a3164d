-- Tables of what is allowed with neighbours, and how pairs are forbidden in them.
use Rattle.std.proofs.Common.{◌≡◌, ◌≢◌, ℕ, zero, suc, ◌+◌, ◌<◌, ◌≤◌, Bool, true, false, not, cond, ◌&&◌, ◌||◌, List, [], ◌∷◌, ◌++◌, length, get_or, set, map, take, replicate, refl, sym, ◌∙◌, ap, subst, arith, inl, inr, eqb, ltb, sum, MatchBool}
use Rattle.std.specs.List.{list_any, flat_map, range_with_len}
use Rattle.std.proofs.lemmas.List.Concat.{flat_map-cons}
use Rattle.std.proofs.lemmas.Map.Views.{any-filter_same}
use Rattle.std.specs.List.Sorted.{IsStrictlyIncreasing}
use Rattle.std.proofs.lemmas.Bool.{or_left, or_right, cases_lt, cases_order, cases_Bool, eq-eqb, eqb-true, ne_eqb, lt-ltb, le-ltb, ltb-true, and_from, and_parts}
use Rattle.std.proofs.lemmas.Bool.Decides.{eqb_tells}
use Rattle.std.proofs.lemmas.List.{get_or_read, get_or_past, get_or_append_left, get_or-set_same, get_or-set_other, length-set, length-replicate, get_or-replicate}
use Rattle.std.proofs.lemmas.List.Folds.{list_any_more, list_any-append, Any-from_list_any}
use Rattle.std.proofs.lemmas.List.FromFn.{length-range_with_len, get_or-range_with_len}
use Rattle.std.proofs.Math.Seq.{get_or-append_seam}
use Rattle.std.proofs.lemmas.Grind.{get_or_default_zero}
use Rattle.std.proofs.lemmas.Map.Keys.{below_from_sorted, sorted_from_strictly_increasing}
use Rattle.bit_rows.specs.Rows.{row_at, truth_at}
use Rattle.std.specs.declared.vec.Vec.{Vec}
use Rattle.version_graph.specs.Graph.{Graph, packages, states, has_pair, is_forbidden, is_key, are_neighbours, IsListOf}
use Rattle.version_graph.specs.Keys.{Key, pair_at, is_in, bare, every_key}
use Rattle.version_graph.specs.Stored.{graph_of, pairs_in, includes, IsKept, IsStored, AreNeighbourRows}
use Rattle.version_graph.specs.Family.{Meets, AreAlike}
use Rattle.version_graph.specs.Domain.{Rows, row, has}
use Rattle.bit_rows.specs.Rows.{any_both, agree_under}
use Rattle.bit_rows.proofs.RowLemmas.{any_some, any_from, agree_read, agree_from}
use Rattle.version_graph.proofs.RowLemmas.{has_known}
use Rattle.version_graph.specs.Links.{Table, Linked, IsLinked, number_at, table_at, allows_at, is_cleared, forbids_in, together_in, IsInTable, SameShape, Forbids, IsFree, unlinked, link_at, IsLinkOf, CanForbid, ForbidsAll, ForbidsOf}
use Rattle.version_graph.proofs.GraphLemmas.{both_true, IsOfPairs, of-pairs, in_range, forbidden-below, Contains_from_includes, includes_at, includes-listed, pair-listed, between-from, neighbours_from_forbidden}
use Rattle.version_graph.proofs.BuildLemmas.{forbidden-added, key-turned}
use Rattle.version_graph.proofs.PartLemmas.{one_le_sum}

-- ---- the place of a neighbour

-- two places of rising numbers with one number are one place
pub one_place : (xs : List ℕ) (k n : ℕ) → IsStrictlyIncreasing xs → k < length xs → n < length xs → get_or xs k 0 ≡ get_or xs n 0 → k ≡ n
one_place xs k n up h l e =
    elim (cases_order k n) [
      | inl same ↦ same
      | inr o ↦ elim o [
        | inl m ↦ let less : get_or xs k 0 < get_or xs n 0 = below_from_sorted xs k n 0 (sorted_from_strictly_increasing xs up) m l in absurd (omega (arith, less, e))
        | inr m ↦ let less : get_or xs n 0 < get_or xs k 0 = below_from_sorted xs n k 0 (sorted_from_strictly_increasing xs up) m h in absurd (omega (arith, less, e))
      ]
    ]

-- a number that a search doesn't find isn't there
pub not_there : (xs : List ℕ) (q i : ℕ) → ((k : ℕ) → k < i → get_or xs k 0 < q) → ((k : ℕ) → i ≤ k → k < length xs → q < get_or xs k 0) → includes xs q ≡ false
not_there xs q i below above =
    elim (cases_Bool (includes xs q)) [
      | inr f ↦ f
      | inl t ↦
          let c = Contains_from_includes xs q t in
          let here : get_or xs c.0 0 ≡ q = sym (get_or_default_zero xs c.0 q c.1) ∙ c.2 in
          elim (cases_lt c.0 i) [
            | inl l ↦ absurd (omega (arith, below c.0 l, here))
            | inr l ↦ absurd (omega (arith, above c.0 l c.1, here))
          ]
    ]

-- where q isn't among the numbers, no place has it
pub no_place : (xs : List ℕ) (q k : ℕ) → includes xs q ≡ false → k < length xs → get_or xs k 0 ≡ q → ⊥
no_place xs q k none h e =
    let there = includes_at xs k q h e in absurd (cc)

-- ---- tables

pub shape-same : (l : Linked) → SameShape l l
shape-same l = record { numbers = refl; rows = λ k. refl; wide = λ k i. refl }

pub shape-on : (a b c : Linked) → SameShape a b → SameShape b c → SameShape a c
shape-on a b c x y = record {
  numbers = y.numbers ∙ x.numbers;
  rows = λ k. y.rows k ∙ x.rows k;
  wide = λ k i. y.wide k i ∙ x.wide k i;
}

keeps_all : (a b : Bool) → b ≡ false → a ≡ (a && not b)
keeps_all true true e = cc
keeps_all true false e = refl
keeps_all false b e = refl

takes_out : (a b : Bool) → b ≡ true → false ≡ (a && not b)
takes_out true true e = refl
takes_out true false e = cc
takes_out false b e = refl

both_eqb : (b i d j : ℕ) → (b ≡ i → d ≡ j → ⊥) → (eqb b i && eqb d j) ≡ false
both_eqb b i d j apart =
    elim (eqb_tells b i) [
      | inr s ↦ ap (λ z. z && eqb d j) s.0
      | inl s ↦ elim (eqb_tells d j) [
        | inr t ↦ ap (λ z. eqb b i && z) t.0 ∙ dead (eqb b i)
        | inl t ↦ absurd (apart s.1 t.1)
      ]
    ]
  where
    dead : (a : Bool) → (a && false) ≡ false
    dead true = refl
    dead false = refl

-- the table with one place cleared
abbrev pub cleared : Table → ℕ → ℕ → Table
cleared t i j = set t i (set (row_at t i) j false)

pub cleared_truth : (t : Table) (i j b d : ℕ) → IsInTable t i j → truth_at (row_at (cleared t i j) b) d ≡ (truth_at (row_at t b) d && not (eqb b i && eqb d j))
cleared_truth t i j b d h =
    elim (eqb_tells b i) [
      | inr s ↦
          ap (λ r. truth_at r d) (get_or-set_other t i b _ [] s.1)
          ∙ keeps_all (truth_at (row_at t b) d) (eqb b i && eqb d j) (both_eqb b i d j (λ e f. s.1 e))
      | inl s ↦
          ap (λ n. truth_at (row_at (cleared t i j) n) d) s.1 ∙ ap (λ r. truth_at r d) (get_or-set_same t i _ [] h.row)
          ∙ elim (eqb_tells d j) [
            | inl u ↦
                ap (λ n. get_or (set (row_at t i) j false) n false) u.1 ∙ get_or-set_same (row_at t i) j false false h.place
                ∙ takes_out (truth_at (row_at t b) d) (eqb b i && eqb d j) (λ k. (s.0) k && (u.0) k)
            | inr u ↦
                get_or-set_other (row_at t i) j d false false u.1 ∙ ap (λ n. truth_at (row_at t n) d) (sym s.1)
                ∙ keeps_all (truth_at (row_at t b) d) (eqb b i && eqb d j) (both_eqb b i d j (λ e f. u.1 f))
          ]
    ]

pub cleared_rows : (t : Table) (i j : ℕ) → length (cleared t i j) ≡ length t
cleared_rows t i j = length-set t i _

pub cleared_wide : (t : Table) (i j b : ℕ) → i < length t → length (row_at (cleared t i j) b) ≡ length (row_at t b)
cleared_wide t i j b h =
    elim (eqb_tells b i) [
      | inr s ↦ ap length (get_or-set_other t i b _ [] s.1)
      | inl s ↦ ap (λ n. length (row_at (cleared t i j) n)) s.1 ∙ ap length (get_or-set_same t i _ [] h) ∙ length-set (row_at t i) j false ∙ ap (λ n. length (row_at t n)) (sym s.1)
    ]

-- the tables with one place of one table cleared
pub cleared_forbids : (numbers : List ℕ) (tables : List Table) (place i q j : ℕ) → IsLinked (record { numbers = numbers; tables = tables }) →
    place < length numbers → get_or numbers place 0 ≡ q → IsInTable (get_or tables place []) i j →
    Forbids (record { numbers = numbers; tables = tables }) (record { numbers = numbers; tables = set tables place (cleared (get_or tables place []) i j) }) i q j
cleared_forbids numbers tables place i q j linked known at h = record {
  shape = record {
    numbers = refl;
    rows = λ k. elim (eqb_tells k place) [
      | inl s ↦ ap (λ n. length (get_or (set tables place (cleared (get_or tables place []) i j)) n [])) s.1
          ∙ ap length (get_or-set_same tables place _ [] inside) ∙ cleared_rows (get_or tables place []) i j ∙ ap (λ n. length (get_or tables n [])) (sym s.1)
      | inr s ↦ ap length (get_or-set_other tables place k _ [] s.1)
    ];
    wide = λ k b. elim (eqb_tells k place) [
      | inl s ↦ ap (λ n. length (row_at (get_or (set tables place (cleared (get_or tables place []) i j)) n []) b)) s.1
          ∙ ap (λ t. length (row_at t b)) (get_or-set_same tables place _ [] inside) ∙ cleared_wide (get_or tables place []) i j b h.row
          ∙ ap (λ n. length (row_at (get_or tables n []) b)) (sym s.1)
      | inr s ↦ ap (λ t. length (row_at t b)) (get_or-set_other tables place k _ [] s.1)
    ];
  };
  allows = λ k b d below. elim (eqb_tells k place) [
    | inl s ↦
        ap (λ n. truth_at (row_at (get_or (set tables place (cleared (get_or tables place []) i j)) n []) b) d) s.1
        ∙ ap (λ t. truth_at (row_at t b) d) (get_or-set_same tables place _ [] inside)
        ∙ cleared_truth (get_or tables place []) i j b d h
        ∙ ap (λ v. truth_at (row_at (get_or tables place []) b) d && not (v && (eqb b i && eqb d j))) (sym (eq-eqb _ q (ap (λ n. get_or numbers n 0) s.1 ∙ at)))
        ∙ ap (λ n. truth_at (row_at (get_or tables n []) b) d && not (eqb (get_or numbers k 0) q && (eqb b i && eqb d j))) (sym s.1)
    | inr s ↦
        ap (λ t. truth_at (row_at t b) d) (get_or-set_other tables place k _ [] s.1)
        ∙ keeps_all (truth_at (row_at (get_or tables k []) b) d) (eqb (get_or numbers k 0) q && (eqb b i && eqb d j))
        (ap (λ v. v && (eqb b i && eqb d j)) (ne_eqb _ q (λ e. s.1 (one_place numbers k place linked.rising below known (e ∙ sym at)))))
  ];
}
  where
    inside : place < length tables
    inside = omega (arith, known, linked.each)

-- where q isn't a neighbour nothing changes
pub forbids_none : (l : Linked) (i q j : ℕ) → includes l.numbers q ≡ false → Forbids l l i q j
forbids_none l i q j none = record {
  shape = shape-same l;
  allows = λ k b d below. keeps_all (allows_at l k b d) (eqb (number_at l k) q && (eqb b i && eqb d j))
      (ap (λ v. v && (eqb b i && eqb d j)) (ne_eqb _ q (λ e. no_place l.numbers q k none below e)));
}

-- ---- a table in which all is allowed

map-replicate : {A B : Type 0} (f : A → B) (n : ℕ) (x : A) → map f (replicate n x) ≡ replicate n (f x)
map-replicate f zero x = refl
map-replicate f (suc n) x = ap (λ xs. f x ∷ xs) (map-replicate f n x)

pub filled-is : (n m : ℕ) → map (λ (xs : List Bool). map (λ (b : Bool). true) xs) (replicate n (replicate m false)) ≡ replicate n (replicate m true)
filled-is n m = map-replicate (λ (xs : List Bool). map (λ (b : Bool). true) xs) n (replicate m false) ∙ ap (replicate n) (map-replicate (λ (b : Bool). true) m false)

pub free-from : (numbers : List ℕ) (tables : List Table) (count : ℕ) (sizes : List ℕ) →
    ((k : ℕ) → k < length numbers → get_or tables k [] ≡ replicate count (replicate (get_or sizes (get_or numbers k 0) 0) true)) →
    IsFree (record { numbers = numbers; tables = tables }) count sizes
free-from numbers tables count sizes at = record {
  rows = λ k h. ap length (at k h) ∙ length-replicate count (replicate (get_or sizes (get_or numbers k 0) 0) true);
  wide = λ k i h l.
      ap (λ t. length (row_at t i)) (at k h) ∙ ap length (get_or-replicate count i (replicate (get_or sizes (get_or numbers k 0) 0) true) [] l)
      ∙ length-replicate (get_or sizes (get_or numbers k 0) 0) true;
  free = λ k i j h l m.
      ap (λ t. truth_at (row_at t i) j) (at k h) ∙ ap (λ r. truth_at r j) (get_or-replicate count i (replicate (get_or sizes (get_or numbers k 0) 0) true) [] l)
      ∙ get_or-replicate (get_or sizes (get_or numbers k 0) 0) j true false m;
}

-- the table that a search found is that of every place with this number
pub table_of : (l now : Linked) → l ≡ now → IsLinked l → (t : Table) (place k q : ℕ) → place < length now.numbers → number_at now place ≡ q →
    k < length now.numbers → number_at now k ≡ q → t ≡ get_or l.tables place t → t ≡ table_at now k
table_of l now view linked t place k q known at h e read =
    let up : IsStrictlyIncreasing now.numbers = subst (λ (x : Linked). IsStrictlyIncreasing x.numbers) view linked.rising in
    let same : place ≡ k = one_place now.numbers place k up known h (at ∙ sym e) in
    let inside : place < length l.tables = omega (arith, linked.each, ap (λ (x : Linked). length x.numbers) view, known) in
    get_or_read l.tables place t inside read [] ∙ ap (λ (x : Linked). table_at x place) view ∙ ap (table_at now) same

-- ---- pairs in the tables of both packages

same_place : (a : ℕ) (x : Bool) (p : ℕ) → a ≡ p → x ≡ (eqb a p && x)
same_place a x p e = sym (ap (λ v. v && x) (eq-eqb a p e))

off_place : (a : ℕ) (v x : Bool) (p : ℕ) → a ≢ p → v ≡ (v && not (eqb a p && x))
off_place a v x p e = keeps_all v (eqb a p && x) (ap (λ b. b && x) (ne_eqb a p e))

pub forbids_of : (links : List Linked) (p i q j : ℕ) (new : Linked) → p < length links → Forbids (link_at links p) new i q j → ForbidsOf links (set links p new) p i q j
forbids_of links p i q j new known f = record {
  each = length-set links p new;
  shape = λ a. elim (eqb_tells a p) [
    | inl s ↦
        subst (λ n. SameShape (link_at links n) (link_at (set links p new) n)) (sym s.1)
        (subst (SameShape (link_at links p)) (sym (get_or-set_same links p new unlinked known)) f.shape)
    | inr s ↦ subst (SameShape (link_at links a)) (sym (get_or-set_other links p a new unlinked s.1)) (shape-same (link_at links a))
  ];
  allows = λ a k b d h. elim (eqb_tells a p) [
    | inl s ↦
        ap (λ n. allows_at (link_at (set links p new) n) k b d) s.1
        ∙ ap (λ l. allows_at l k b d) (get_or-set_same links p new unlinked known)
        ∙ f.allows k b d (omega (arith, h, ap (λ n. length (link_at links n).numbers) s.1))
        ∙ ap (λ n. allows_at (link_at links n) k b d && not (eqb (number_at (link_at links n) k) q && (eqb b i && eqb d j))) (sym s.1)
        ∙ ap (λ v. allows_at (link_at links a) k b d && not v) (same_place a (eqb (number_at (link_at links a) k) q && (eqb b i && eqb d j)) p s.1)
    | inr s ↦
        ap (λ l. allows_at l k b d) (get_or-set_other links p a new unlinked s.1)
        ∙ off_place a (allows_at (link_at links a) k b d) (eqb (number_at (link_at links a) k) q && (eqb b i && eqb d j)) p s.1
  ];
}

in_table_still : (old new : Linked) → SameShape old new → (k i j q : ℕ) →
    (k < length old.numbers → number_at old k ≡ q → IsInTable (table_at old k) i j) → k < length new.numbers → number_at new k ≡ q → IsInTable (table_at new k) i j
in_table_still old new s k i j q f h e =
    let there = f (omega (arith, h, ap length s.numbers)) (sym (ap (λ xs. get_or xs k 0) s.numbers) ∙ e) in
    record { row = omega (arith, there.row, s.rows k); place = omega (arith, there.place, s.wide k i) }

pub can_still : (old new : List Linked) → length new ≡ length old → ((p : ℕ) → SameShape (link_at old p) (link_at new p)) → (p i q j : ℕ) → CanForbid old p i q j → CanForbid new p i q j
can_still old new each shape p i q j c = record {
  first = omega (arith, c.first, each);
  second = omega (arith, c.second, each);
  below = c.below;
  there = λ k. in_table_still (link_at old p) (link_at new p) (shape p) k i j q (c.there k);
  back = λ k. in_table_still (link_at old q) (link_at new q) (shape q) k j i p (c.back k);
}

pub bare-forbidden : (g : Graph) (pairs : List Key) → IsOfPairs g pairs → (a b c d : ℕ) → is_forbidden (bare pairs) a b c d ≡ is_forbidden g a b c d
unfolding is_forbidden has_pair
bare-forbidden g pairs o a b c d =
    let one = sym (o.told a b c d) in
    let two = sym (o.told c d a b) in
    λ n. cond (ltb a c) (one n) (two n)

none-forbidden : (a b c d : ℕ) → is_forbidden (bare []) a b c d ≡ false
unfolding is_forbidden has_pair
none-forbidden a b c d = same (ltb a c)
  where
    same : (x : Bool) → cond x false false ≡ false
    same true = refl
    same false = refl

one-more : (pairs : List Key) (n a b c d : ℕ) → n < length pairs →
    has_pair (bare (take (n + 1) pairs)) a b c d ≡ (has_pair (bare (take n pairs)) a b c d || is_key a b c d (pair_at pairs n).0 (pair_at pairs n).2 (pair_at pairs n).1 (pair_at pairs n).3)
unfolding has_pair
one-more pairs n a b c d h =
    list_any_more (λ (k : Key). (eqb k.0 a && eqb k.2 b) && (eqb k.1 c && eqb k.3 d)) pairs n (0, 0, 0, 0) h
    ∙ ap (λ x. list_any (λ (k : Key). (eqb k.0 a && eqb k.2 b) && (eqb k.1 c && eqb k.3 d)) (take n pairs) || x)
    (key-turned (pair_at pairs n).0 (pair_at pairs n).2 (pair_at pairs n).1 (pair_at pairs n).3 a b c d)

regrouped : (e w y z : Bool) → (e && (w && (y && z))) ≡ ((e && y) && (w && z))
regrouped true true true z = refl
regrouped true true false z = refl
regrouped true false true z = refl
regrouped true false false z = refl
regrouped false w y z = refl

all_out : (a f u v : Bool) → (((a && not f) && not u) && not v) ≡ (a && not (f || (u || v)))
all_out true true u v = refl
all_out true false true v = refl
all_out true false false v = refl
all_out false f u v = refl

pub forbids_start : (links : List Linked) → ForbidsAll links links []
forbids_start links = record {
  each = refl;
  shape = λ p. shape-same (link_at links p);
  allows = λ p k i j h. keeps_all (allows_at (link_at links p) k i j) _ (none-forbidden p i (number_at (link_at links p) k) j);
}

pub forbids_more : (a b c d : List Linked) (pairs : List Key) (n : ℕ) → n < length pairs → ForbidsAll a b (take n pairs) → (pair_at pairs n).0 < (pair_at pairs n).1 →
    ForbidsOf b c (pair_at pairs n).0 (pair_at pairs n).2 (pair_at pairs n).1 (pair_at pairs n).3 →
    ForbidsOf c d (pair_at pairs n).1 (pair_at pairs n).3 (pair_at pairs n).0 (pair_at pairs n).2 → ForbidsAll a d (take (n + 1) pairs)
forbids_more a b c d pairs n h all below one two = record {
  each = two.each ∙ one.each ∙ all.each;
  shape = λ x. shape-on (link_at a x) (link_at b x) (link_at d x) (all.shape x) (shape-on (link_at b x) (link_at c x) (link_at d x) (one.shape x) (two.shape x));
  allows = λ x k y z l.
      let p = (pair_at pairs n).0 in
      let i = (pair_at pairs n).2 in
      let q = (pair_at pairs n).1 in
      let j = (pair_at pairs n).3 in
      let number = number_at (link_at a x) k in
      let b_same : number_at (link_at b x) k ≡ number = ap (λ xs. get_or xs k 0) (all.shape x).numbers in
      let c_same : number_at (link_at c x) k ≡ number = ap (λ xs. get_or xs k 0) (one.shape x).numbers ∙ b_same in
      let b_fits : k < length (link_at b x).numbers = omega (arith, l, ap length (all.shape x).numbers) in
      let c_fits : k < length (link_at c x).numbers = omega (arith, b_fits, ap length (one.shape x).numbers) in
      let old = is_forbidden (bare (take n pairs)) x y number z in
      two.allows x k y z c_fits
      ∙ ap (λ m. allows_at (link_at c x) k y z && not (eqb x q && (eqb m p && (eqb y j && eqb z i)))) c_same
      ∙ ap (λ v. v && not (eqb x q && (eqb number p && (eqb y j && eqb z i))))
      (one.allows x k y z b_fits
      ∙ ap (λ m. allows_at (link_at b x) k y z && not (eqb x p && (eqb m q && (eqb y i && eqb z j)))) b_same
      ∙ ap (λ v. v && not (eqb x p && (eqb number q && (eqb y i && eqb z j)))) (all.allows x k y z l))
      ∙ (λ m. ((allows_at (link_at a x) k y z && not old) && not (regrouped (eqb x p) (eqb number q) (eqb y i) (eqb z j) m)) && not (regrouped (eqb x q) (eqb number p) (eqb y j) (eqb z i) m))
      ∙ all_out (allows_at (link_at a x) k y z) old (is_key x y number z p i q j) (is_key x y number z q j p i)
      ∙ ap (λ v. allows_at (link_at a x) k y z && not v)
      (sym (forbidden-added (bare (take n pairs)) (bare (take (n + 1) pairs)) p i q j below (λ s t u v. one-more pairs n s t u v h) x y number z));
}

-- one more package's links
pub links_more : (links new : List Linked) (y : Linked) (n : ℕ) (P : ℕ → Linked → Type 0) → new ≡ links ++ y ∷ [] → length links ≡ n →
    ((p : ℕ) → p < n → P p (link_at links p)) → P n y → (p : ℕ) → p < n + 1 → P p (link_at new p)
links_more links new y n P e long old here p h =
    elim (cases_lt p n) [
      | inl l ↦ subst (P p) (sym (ap (λ xs. link_at xs p) e ∙ get_or_append_left links (y ∷ []) unlinked p (omega (arith, l, long)))) (old p l)
      | inr l ↦
          let same : n ≡ p = omega (arith, h, l) in
          let last : link_at new n ≡ y = ap (λ xs. link_at xs n) e ∙ ap (link_at (links ++ y ∷ [])) (sym long) ∙ get_or-append_seam links y [] unlinked in
          subst (λ k. P k (link_at new k)) same (subst (P n) (sym last) here)
    ]

-- ---- the whole instance

module _ {Z : Type 0} (g : Graph) (barred : List (Vec Bool Z)) (pairs : List Key) (of : IsOfPairs g pairs) (kept : IsKept g barred) (rows : List (List ℕ)) (near : AreNeighbourRows g rows)
    (links : List Linked) (each : length links ≡ length rows)
    (numbers : (p : ℕ) → p < length rows → (link_at links p).numbers ≡ get_or rows p [])
    (free : (p : ℕ) → p < length rows → IsFree (link_at links p) (get_or g.sizes p 0) g.sizes) where
  fits : (p i q j : ℕ) → p < packages g → i < states g p → j < states g q → (k : ℕ) → k < length (link_at links p).numbers → number_at (link_at links p) k ≡ q → IsInTable (table_at (link_at links p) k) i j
  fits p i q j known first second k h e =
      let f = free p (omega (arith, known, near.each)) in
      record {
        row = omega (arith, first, f.rows k h);
        place = omega (arith, second, f.wide k i h first, ap (states g) e);
      }

  pub can_forbid : (n : ℕ) → n < length pairs → CanForbid links (pair_at pairs n).0 (pair_at pairs n).2 (pair_at pairs n).1 (pair_at pairs n).3
  can_forbid n h =
      let l = pair-listed g barred pairs of kept n h in
      let p = (pair_at pairs n).0 in
      let q = (pair_at pairs n).1 in
      let i = (pair_at pairs n).2 in
      let j = (pair_at pairs n).3 in
      let known : p < packages g = omega (arith, l.below, l.known) in
      record {
        first = omega (arith, known, each, near.each);
        second = omega (arith, l.known, each, near.each);
        below = l.below;
        there = fits p i q j known l.first_state l.second_state;
        back = fits q j p i l.known l.second_state l.first_state;
      }

  pub stored_from : (new : List Linked) (total : ℕ) → ForbidsAll links new pairs → total ≡ sum g.sizes → IsStored g barred new total
  stored_from new total all counted = record {
    kept = kept;
    each = all.each ∙ each ∙ near.each;
    counted = counted;
    lists = λ p known. subst (IsListOf (are_neighbours g p)) (sym ((all.shape p).numbers ∙ numbers p (omega (arith, known, near.each)))) (near.lists p known);
    tables = λ p known.
        let s = all.shape p in
        let f = free p (omega (arith, known, near.each)) in
        record {
          rows = λ k h. s.rows k ∙ f.rows k (omega (arith, h, ap length s.numbers));
          wide = λ k i h l.
              s.wide k i ∙ f.wide k i (omega (arith, h, ap length s.numbers)) l ∙ ap (states g) (ap (λ xs. get_or xs k 0) (sym s.numbers));
          bits = λ k i j h l m.
              let old : k < length (link_at links p).numbers = omega (arith, h, ap length s.numbers) in
              let same : number_at (link_at new p) k ≡ number_at (link_at links p) k = ap (λ xs. get_or xs k 0) s.numbers in
              all.allows p k i j old
              ∙ ap (λ v. v && not (is_forbidden (bare pairs) p i (number_at (link_at links p) k) j)) (f.free k i j old l (omega (arith, m, ap (states g) same)))
              ∙ ap not (bare-forbidden g pairs of p i (number_at (link_at links p) k) j)
              ∙ ap (λ n. not (is_forbidden g p i n j)) (sym same);
        };
  }

-- ---- what the tables tell

module _ {Z : Type 0} (g : Graph) (barred : List (Vec Bool Z)) (links : List Linked) (total : ℕ) (stored : IsStored g barred links total)
    (p : ℕ) (known : p < packages g) (l : Linked) (read : l ≡ get_or links p l) where
  pub link_is : l ≡ link_at links p
  link_is = get_or_read links p l (omega (arith, known, stored.each)) read unlinked

  pub link_list : IsListOf (are_neighbours g p) l.numbers
  link_list = subst (λ (x : Linked). IsListOf (are_neighbours g p) x.numbers) (sym link_is) (stored.lists p known)

  pub link_tables : IsLinkOf g p l
  link_tables = subst (IsLinkOf g p) (sym link_is) (stored.tables p known)

  pub link_rows : (i : ℕ) → i < states g p → (k : ℕ) → k < length l.numbers → i < length (table_at l k)
  link_rows i h k below = omega (arith, h, link_tables.rows k below)

  pub link_wide : (i q : ℕ) → i < states g p → (k : ℕ) → k < length l.numbers → number_at l k ≡ q → length (row_at (table_at l k) i) ≡ states g q
  link_wide i q h k below e = link_tables.wide k i below h ∙ ap (states g) e

  pub link_fits : (i q j : ℕ) → i < states g p → j < states g q → (k : ℕ) → k < length l.numbers → number_at l k ≡ q → IsInTable (table_at l k) i j
  link_fits i q j h m k below e = record { row = link_rows i h k below; place = omega (arith, m, link_wide i q h k below e) }

  pub link_includes : (q : ℕ) → includes l.numbers q ≡ are_neighbours g p q
  link_includes q = includes-listed (are_neighbours g p) l.numbers link_list q

  pub link_none : (q : ℕ) → includes l.numbers q ≡ false → (i j : ℕ) → is_forbidden g p i q j ≡ false
  link_none q none i j =
      elim (cases_Bool (is_forbidden g p i q j)) [
        | inr f ↦ f
        | inl t ↦
            let near = neighbours_from_forbidden g p i q j (between-from g barred stored.kept p i q j t) t in
            let there = link_includes q ∙ near in absurd (cc)
      ]

  pub link_bits : (i q j : ℕ) → i < states g p → j < states g q → (k : ℕ) → k < length l.numbers → number_at l k ≡ q → allows_at l k i j ≡ not (is_forbidden g p i q j)
  link_bits i q j h m k below e =
      link_tables.bits k i j below h (omega (arith, m, ap (states g) e)) ∙ ap (λ n. not (is_forbidden g p i n j)) e

  link_place : (q : ℕ) → includes l.numbers q ≡ true → (k : ℕ) × (k < length l.numbers) × (number_at l k ≡ q)
  link_place q t =
      let c = Contains_from_includes l.numbers q t in
      (c.0, c.1, sym (get_or_default_zero l.numbers c.0 q c.1) ∙ c.2)

  pub allowed_told : (i q j : ℕ) (r : Bool) → i < states g p → j < states g q → (includes l.numbers q ≡ false → r ≡ true) →
      ((k : ℕ) → k < length l.numbers → number_at l k ≡ q → r ≡ allows_at l k i j) → r ≡ not (is_forbidden g p i q j)
  allowed_told i q j r h m none some =
      elim (cases_Bool (includes l.numbers q)) [
        | inr f ↦ none f ∙ sym (ap not (link_none q f i j))
        | inl t ↦ let k = link_place q t in some k.0 k.1 k.2 ∙ link_bits i q j h m k.0 k.1 k.2
      ]

  not_true : (b : Bool) → not b ≡ true → b ≡ false
  not_true true e = cc
  not_true false e = refl

  -- a state of the domain that the table allows
  pub meets_told : (d : Rows) (i q k : ℕ) (yes : Bool) → i < states g p → length (row d q) ≡ states g q → k < length l.numbers → number_at l k ≡ q →
      yes ≡ any_both (row_at (table_at l k) i) (row d q) → MatchBool yes (Meets g (has d) p i q) ((j : ℕ) → has d q j ≡ true → is_forbidden g p i q j ≡ true)
  unfolding has
  meets_told d i q k true h wide below e told =
      let s = any_some (row_at (table_at l k) i) (row d q) (sym told) in
      let inside : s.0 < states g q = omega (arith, (has_known d q s.0 s.2).1, wide) in
      record { partner = s.0; there = s.2; allowed = not_true _ (sym (link_bits i q s.0 h inside k below e) ∙ s.1) }
  meets_told d i q k false h wide below e told = λ j there.
      let inside : j < states g q = omega (arith, (has_known d q j there).1, wide) in
      elim (cases_Bool (is_forbidden g p i q j)) [
        | inl t ↦ t
        | inr f ↦
            let yes = any_from (row_at (table_at l k) i) (row d q) j (link_bits i q j h inside k below e ∙ ap not f) there in absurd (cc)
      ]

  pub meets_none : (d : Rows) (i q : ℕ) (yes : Bool) → includes l.numbers q ≡ false → MatchBool yes ((j : ℕ) × (has d q j ≡ true)) ((j : ℕ) → has d q j ≡ false) →
      MatchBool yes (Meets g (has d) p i q) ((j : ℕ) → has d q j ≡ true → is_forbidden g p i q j ≡ true)
  meets_none d i q true none s = record { partner = s.0; there = s.1; allowed = link_none q none i s.0 }
  meets_none d i q false none f = λ j there. let away = f j in absurd (cc)

  same_not : (a b : Bool) → not a ≡ not b → a ≡ b
  same_not true true e = refl
  same_not true false e = cc
  same_not false true e = cc
  same_not false false e = refl

  -- two states that the table allows alike within the domain
  pub alike_told : (d : Rows) (i j q : ℕ) (r : Bool) → i < states g p → j < states g p → length (row d q) ≡ states g q → (includes l.numbers q ≡ false → r ≡ true) →
      ((k : ℕ) → k < length l.numbers → number_at l k ≡ q → r ≡ agree_under (row_at (table_at l k) i) (row_at (table_at l k) j) (row d q)) →
      MatchBool r (AreAlike g (has d) p i j q) (AreAlike g (has d) p i j q → ⊥)
  unfolding has
  alike_told d i j q true h m wide none some = record {
    alike = λ n there.
        let inside : n < states g q = omega (arith, (has_known d q n there).1, wide) in
        elim (cases_Bool (includes l.numbers q)) [
          | inr f ↦ link_none q f i n ∙ sym (link_none q f j n)
          | inl t ↦
              let k = link_place q t in
              let agree = agree_read (row_at (table_at l k.0) i) (row_at (table_at l k.0) j) (row d q) (sym (some k.0 k.1 k.2)) n
              (omega (arith, inside, link_wide i q h k.0 k.1 k.2)) (omega (arith, inside, link_wide j q m k.0 k.1 k.2)) there in
              same_not _ _ (sym (link_bits i q n h inside k.0 k.1 k.2) ∙ agree ∙ link_bits j q n m inside k.0 k.1 k.2)
        ];
  }
  alike_told d i j q false h m wide none some = λ alike.
      elim (cases_Bool (includes l.numbers q)) [
        | inr f ↦ let yes = none f in absurd (cc)
        | inl t ↦
            let k = link_place q t in
            let yes = agree_from (row_at (table_at l k.0) i) (row_at (table_at l k.0) j) (row d q) (λ n there.
            let inside : n < states g q = omega (arith, (has_known d q n there).1, wide) in
            link_bits i q n h inside k.0 k.1 k.2 ∙ ap not (alike.alike n there) ∙ sym (link_bits j q n m inside k.0 k.1 k.2)) in
            let no = some k.0 k.1 k.2 in absurd (cc)
      ]

-- ---- the instance that the tables tell

not_not : (a b : Bool) → a ≡ not b → not a ≡ true → b ≡ true
not_not a true e f = refl
not_not a false e f = absurd (cc)

module _ {Z : Type 0} (g : Graph) (barred : List (Vec Bool Z)) (links : List Linked) (total : ℕ) (stored : IsStored g barred links total) where
  has_tables : (p k : ℕ) → k < length (link_at links p).numbers → p < packages g
  has_tables p k h =
      elim (cases_lt p (packages g)) [
        | inl l ↦ l
        | inr l ↦ absurd (omega (arith, h, ap (λ (x : Linked). length x.numbers) (get_or_past links p unlinked (omega (arith, l, stored.each)))))
      ]

  told-there : (p i q j : ℕ) → forbids_in (link_at links p) i q j ≡ true → is_forbidden g p i q j ≡ true
  told-there p i q j e =
      let l = link_at links p in
      let n = length l.numbers in
      let long = length-range_with_len 0 n in
      let a = Any-from_list_any (λ k. eqb (number_at l k) q && is_cleared (table_at l k) i j) (range_with_len 0 n) e in
      let k = a.1 in
      let at = get_or-range_with_len 0 n a.0 a.1 (omega (arith, a.2, long)) in
      let below : k < n = omega (arith, at, a.3, a.2, long) in
      let parts = and_parts (eqb (number_at l k) q) _ a.4 in
      let more = and_parts (ltb i (length (table_at l k))) _ parts.1 in
      let rest = and_parts (ltb j (length (row_at (table_at l k) i))) _ more.1 in
      let tables = stored.tables p (has_tables p k below) in
      let first : i < states g p = omega (arith, ltb-true _ _ more.0, tables.rows k below) in
      let second : j < states g (number_at l k) = omega (arith, ltb-true _ _ rest.0, tables.wide k i below first) in
      subst (λ m. is_forbidden g p i m j ≡ true) (eqb-true _ _ parts.0)
      (not_not (allows_at l k i j) (is_forbidden g p i (number_at l k) j) (tables.bits k i j below first second) rest.1)

  there-told : (p i q j : ℕ) → is_forbidden g p i q j ≡ true → forbids_in (link_at links p) i q j ≡ true
  there-told p i q j e =
      let l = link_at links p in
      let b = between-from g barred stored.kept p i q j e in
      let c = (stored.lists p b.first).whole q (neighbours_from_forbidden g p i q j b e) in
      let k = c.0 in
      let below = c.1 in
      let here : number_at l k ≡ q = sym (get_or_default_zero l.numbers c.0 q c.1) ∙ c.2 in
      let tables = stored.tables p b.first in
      let first : i < length (table_at l k) = omega (arith, b.first_state, tables.rows k below) in
      let second : j < states g (number_at l k) = omega (arith, b.second_state, ap (states g) here) in
      let place : j < length (row_at (table_at l k) i) = omega (arith, second, tables.wide k i below b.first_state) in
      let away : allows_at l k i j ≡ false = tables.bits k i j below b.first_state second ∙ ap not (ap (λ m. is_forbidden g p i m j) here ∙ e) in
      in_range (λ m. eqb (number_at l m) q && is_cleared (table_at l m) i j) (length l.numbers) k below
      (and_from _ _ (eq-eqb _ _ here) (and_from _ _ (lt-ltb _ _ first) (and_from _ _ (lt-ltb _ _ place) (ap not away))))

  told-at : (p i q j : ℕ) → together_in links p i q j ≡ has_pair g p i q j
  unfolding together_in
  told-at p i q j =
      elim (cases_lt p q) [
        | inl h ↦ ap (λ b. b && forbids_in (link_at links p) i q j) (lt-ltb p q h) ∙ both_true _ _ (told-there p i q j) (there-told p i q j) ∙ forbidden-below g p i q j h
        | inr h ↦ ap (λ b. b && forbids_in (link_at links p) i q j) (le-ltb p q h) ∙ elim (cases_Bool (has_pair g p i q j)) [
          | inr f ↦ sym f
          | inl t ↦ absurd (omega (arith, (stored.kept.listed p i q j t).below, h))
        ]
      ]

-- every pair is one of all pairs
any_flat : {X A : Type 0} (t : A → Bool) (f : X → List A) (xs : List X) (k : ℕ) (d : X) → k < length xs → list_any t (f (get_or xs k d)) ≡ true → list_any t (flat_map f xs) ≡ true
any_flat t f [] k d h e = absurd (omega (arith, h))
any_flat t f (x ∷ xs) zero d h e = ap (list_any t) (flat_map-cons f x xs) ∙ list_any-append t (f x) (flat_map f xs) ∙ or_left _ _ e
any_flat t f (x ∷ xs) (suc k) d h e = ap (list_any t) (flat_map-cons f x xs) ∙ list_any-append t (f x) (flat_map f xs) ∙ or_right _ _ (any_flat t f xs k d (omega (arith, h)) e)

any_below : {A : Type 0} (t : A → Bool) (f : ℕ → List A) (n k : ℕ) → k < n → list_any t (f k) ≡ true → list_any t (flat_map f (range_with_len 0 n)) ≡ true
any_below t f n k h e =
    any_flat t f (range_with_len 0 n) k k (omega (arith, h, length-range_with_len 0 n))
    (ap (λ x. list_any t (f x)) (get_or-range_with_len 0 n k k h ∙ omega arith) ∙ e)

every-key : (n w p i q j : ℕ) → p < n → q < n → i < w → j < w → is_in (every_key n w) p i q j ≡ true
unfolding every_key
every-key n w p i q j first second low high =
    let t : Key → Bool = λ k. (eqb k.0 p && eqb k.2 i) && (eqb k.1 q && eqb k.3 j) in
    any_below t (λ a. flat_map (λ b. flat_map (λ c. flat_map (λ d. (a, b, c, d) ∷ []) (range_with_len 0 w)) (range_with_len 0 w)) (range_with_len 0 n)) n p first
    (any_below t (λ b. flat_map (λ c. flat_map (λ d. (p, b, c, d) ∷ []) (range_with_len 0 w)) (range_with_len 0 w)) n q second
    (any_below t (λ c. flat_map (λ d. (p, q, c, d) ∷ []) (range_with_len 0 w)) w i low
    (any_below t (λ d. (p, q, i, d) ∷ []) w j high
    (or_left _ _ (and_from _ _ (and_from _ _ (eq-eqb p p refl) (eq-eqb i i refl)) (and_from _ _ (eq-eqb q q refl) (eq-eqb j j refl)))))))

-- the pairs of the tables are those that were listed
pub told-pairs : {Z : Type 0} (sizes : List ℕ) (barred : List (Vec Bool Z)) (pairs : List Key) (links : List Linked) (total : ℕ) →
    IsStored (graph_of sizes barred pairs) barred links total → (p i q j : ℕ) → is_in (pairs_in sizes links) p i q j ≡ is_in pairs p i q j
unfolding pairs_in has_pair
told-pairs sizes barred pairs links total stored p i q j =
    let g = graph_of sizes barred pairs in
    let all = every_key (length links) (sum sizes) in
    let t : Key → Bool = λ k. (eqb k.0 p && eqb k.2 i) && (eqb k.1 q && eqb k.3 j) in
    let one : (k : Key) → t k ≡ true → together_in links k.0 k.2 k.1 k.3 ≡ together_in links p i q j = λ k e.
    let parts = and_parts (eqb k.0 p && eqb k.2 i) (eqb k.1 q && eqb k.3 j) e in
    let a = and_parts (eqb k.0 p) (eqb k.2 i) parts.0 in
    let b = and_parts (eqb k.1 q) (eqb k.3 j) parts.1 in
    let a0 = eqb-true _ _ a.0 in
    let a1 = eqb-true _ _ a.1 in
    let b0 = eqb-true _ _ b.0 in
    let b1 = eqb-true _ _ b.1 in
    λ n. together_in links (a0 n) (a1 n) (b0 n) (b1 n) in
    let told : together_in links p i q j ≡ is_in pairs p i q j = told-at g barred links total stored p i q j in
    any-filter_same t (λ k. together_in links k.0 k.2 k.1 k.3) (together_in links p i q j) one all
    ∙ ap (λ b. b && list_any t all) told
    ∙ elim (cases_Bool (is_in pairs p i q j)) [
      | inr f ↦ ap (λ b. b && list_any t all) f ∙ sym f
      | inl y ↦
          let l = stored.kept.listed p i q j y in
          let inside : is_in all p i q j ≡ true =
          every-key (length links) (sum sizes) p i q j (omega (arith, l.below, l.known, stored.each)) (omega (arith, l.known, stored.each))
          (omega (arith, l.first_state, one_le_sum sizes p (omega (arith, l.below, l.known)))) (omega (arith, l.second_state, one_le_sum sizes q l.known)) in
          ap (λ b. b && list_any t all) y ∙ inside ∙ sym y
    ]
