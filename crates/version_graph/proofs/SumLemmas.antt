-- Sums over the neighbours of a package.
use Rattle.std.proofs.Common.{◌≡◌, ℕ, zero, suc, ◌+◌, ◌*◌, ◌^◌, ◌<◌, ◌≤◌, true, false, cond, List, length, get_or, refl, sym, ◌∙◌, ap, arith, inl, inr, ltb}
use Rattle.std.proofs.lemmas.Bool.{cases_lt, cases_order, cases_Bool, lt-ltb, le-ltb}
use Rattle.std.proofs.lemmas.Grind.{get_or_default_zero}
use Rattle.version_graph.specs.Graph.{Graph, states, are_neighbours, share, sum_below, IsListOf}
use Rattle.version_graph.proofs.GraphLemmas.{increasing-ordered}

-- where f adds nothing between a and b
sum-gap : (f : ℕ → ℕ) (a b : ℕ) → a ≤ b → ((x : ℕ) → a ≤ x → x < b → f x ≡ 0) → sum_below f b ≡ sum_below f a
sum-gap f a zero h none = ap (sum_below f) (let e : zero ≡ a = omega (arith, h) in e)
sum-gap f a (suc b) h none =
    elim (cases_order a (suc b)) [
      | inl e ↦ ap (sum_below f) (sym e)
      | inr o ↦ elim o [
        | inl l ↦ omega (arith, sum-gap f a b (omega (arith, l)) (λ x x_low x_high. none x x_low (omega (arith, x_high))), none b (omega (arith, l)) (omega arith))
        | inr l ↦ absurd (omega (arith, h, l))
      ]
    ]

sum-next : (f : ℕ → ℕ) (n : ℕ) → sum_below f (n + 1) ≡ sum_below f n + f n
sum-next f n = ap (sum_below f) (let e : n + 1 ≡ suc n = omega arith in e)

share-none : (g : Graph) (f : ℕ → ℕ → ℕ) (p q : ℕ) → are_neighbours g p q ≡ false → share g f p q ≡ 0
unfolding share
share-none g f p q e = ap (λ b. cond b (f (states g p) (states g q)) 0) e

share-some : (g : Graph) (f : ℕ → ℕ → ℕ) (p q : ℕ) → are_neighbours g p q ≡ true → share g f p q ≡ f (states g p) (states g q)
unfolding share
share-some g f p q e = ap (λ b. cond b (f (states g p) (states g q)) 0) e

-- the sums over the first n neighbours of p, as far as these are lower
pub record SumsTo (g : Graph) (p : ℕ) (row : List ℕ) (n bits cells : ℕ) : Type 0 where
  pub upto : ℕ
  pub low : upto ≤ p
  -- the neighbours from upto on are those from the place n on
  pub ahead : (k : ℕ) → n ≤ k → k < length row → upto ≤ get_or row k 0
  pub behind : (x : ℕ) → x < p → upto ≤ x → are_neighbours g p x ≡ true → (k : ℕ) × (n ≤ k) × (k < length row) × (get_or row k 0 ≡ x)
  pub bits_are : bits ≡ sum_below (share g (λ a b. a * b) p) upto
  pub cells_are : cells ≡ sum_below (share g (λ a b. a + b) p) upto
  pub few_bits : bits ≤ upto * 2 ^ 32
  pub few_cells : cells ≤ upto * 2 ^ 32

pub sums_start : (g : Graph) (p : ℕ) (row : List ℕ) → IsListOf (are_neighbours g p) row → SumsTo g p row 0 0 0
sums_start g p row list = record {
  upto = 0;
  low = omega arith;
  ahead = λ k from below. omega arith;
  behind = λ x h from near.
      let c = list.whole x near in
      (c.0, omega arith, c.1, sym (get_or_default_zero row c.0 x c.1) ∙ c.2);
  bits_are = refl;
  cells_are = refl;
  few_bits = omega arith;
  few_cells = omega arith;
}

-- nothing is added between where the sums stand and the next neighbour
gap_none : (g : Graph) (p : ℕ) (row : List ℕ) (n b c to : ℕ) → IsListOf (are_neighbours g p) row → (s : SumsTo g p row n b c) → to ≤ p → ((k : ℕ) → n ≤ k → k < length row → to ≤ get_or row k 0) →
    (f : ℕ → ℕ → ℕ) (x : ℕ) → s.upto ≤ x → x < to → share g f p x ≡ 0
gap_none g p row n b c to list s h next f x from below =
    elim (cases_Bool (are_neighbours g p x)) [
      | inr none ↦ share-none g f p x none
      | inl near ↦
          let k = s.behind x (omega (arith, h, below)) from near in
          absurd (omega (arith, next k.0 k.1 k.2, k.3, below))
    ]

pub sums_more : (g : Graph) (p : ℕ) (row : List ℕ) (n b c more_bits more_cells : ℕ) → IsListOf (are_neighbours g p) row → SumsTo g p row n b c → n < length row →
    more_bits ≡ cond (ltb (get_or row n 0) p) (states g p * states g (get_or row n 0)) 0 →
    more_cells ≡ cond (ltb (get_or row n 0) p) (states g p + states g (get_or row n 0)) 0 → more_bits ≤ 2 ^ 32 → more_cells ≤ 2 ^ 32 →
    SumsTo g p row (n + 1) (b + more_bits) (c + more_cells)
sums_more g p row n b c more_bits more_cells list s h mb mc fb fc =
    elim (cases_lt (get_or row n 0) p) [
      | inl l ↦
          let v = get_or row n 0 in
          let here : s.upto ≤ v = s.ahead n (omega arith) h in
          let next : (k : ℕ) → n ≤ k → k < length row → v ≤ get_or row k 0 = λ k from below. increasing-ordered row list.rising n k from below in
          let near : are_neighbours g p v ≡ true = list.sound n h in
          let bits_add : more_bits ≡ share g (λ x y. x * y) p v = mb ∙ ap (λ t. cond t (states g p * states g v) 0) (lt-ltb v p l) ∙ sym (share-some g (λ x y. x * y) p v near) in
          let cells_add : more_cells ≡ share g (λ x y. x + y) p v = mc ∙ ap (λ t. cond t (states g p + states g v) 0) (lt-ltb v p l) ∙ sym (share-some g (λ x y. x + y) p v near) in
          let bits_gap = sum-gap (share g (λ x y. x * y) p) s.upto v here (λ x from below. gap_none g p row n b c v list s (omega (arith, l)) next (λ x y. x * y) x from below) in
          let cells_gap = sum-gap (share g (λ x y. x + y) p) s.upto v here (λ x from below. gap_none g p row n b c v list s (omega (arith, l)) next (λ x y. x + y) x from below) in
          record {
            upto = v + 1;
            low = omega (arith, l);
            ahead = λ k from below.
                let one = list.rising n (omega (arith, from, below)) in
                let rest = increasing-ordered row list.rising (n + 1) k from below in
                omega (arith, one, rest);
            behind = λ x x_low x_from x_near.
                let k = s.behind x x_low (omega (arith, here, x_from)) x_near in
                elim (cases_order n k.0) [
                  | inl e ↦ absurd (omega (arith, ap (λ m. get_or row m 0) e, k.3, x_from))
                  | inr o ↦ elim o [
                    | inl m ↦ (k.0, omega (arith, m), k.2, k.3)
                    | inr m ↦ absurd (omega (arith, m, k.1))
                  ]
                ];
            bits_are = omega (arith, s.bits_are, bits_add, bits_gap, sum-next (share g (λ x y. x * y) p) v);
            cells_are = omega (arith, s.cells_are, cells_add, cells_gap, sum-next (share g (λ x y. x + y) p) v);
            few_bits = omega (arith, s.few_bits, fb, here);
            few_cells = omega (arith, s.few_cells, fc, here);
          }
      | inr l ↦
          let no_bits : more_bits ≡ 0 = mb ∙ ap (λ t. cond t (states g p * states g (get_or row n 0)) 0) (le-ltb (get_or row n 0) p l) in
          let no_cells : more_cells ≡ 0 = mc ∙ ap (λ t. cond t (states g p + states g (get_or row n 0)) 0) (le-ltb (get_or row n 0) p l) in
          record {
            upto = s.upto;
            low = s.low;
            ahead = λ k from below. s.ahead k (omega (arith, from)) below;
            behind = λ x x_low x_from x_near.
                let k = s.behind x x_low x_from x_near in
                elim (cases_order n k.0) [
                  | inl e ↦ absurd (omega (arith, ap (λ m. get_or row m 0) e, k.3, x_low, l))
                  | inr o ↦ elim o [
                    | inl m ↦ (k.0, omega (arith, m), k.2, k.3)
                    | inr m ↦ absurd (omega (arith, m, k.1))
                  ]
                ];
            bits_are = omega (arith, s.bits_are, no_bits);
            cells_are = omega (arith, s.cells_are, no_cells);
            few_bits = omega (arith, s.few_bits, no_bits);
            few_cells = omega (arith, s.few_cells, no_cells);
          }
    ]

pub sums_end : (g : Graph) (p : ℕ) (row : List ℕ) (n b c : ℕ) → IsListOf (are_neighbours g p) row → SumsTo g p row n b c → length row ≤ n →
    (b ≡ sum_below (share g (λ x y. x * y) p) p) × (c ≡ sum_below (share g (λ x y. x + y) p) p)
sums_end g p row n b c list s h =
    let next : (k : ℕ) → n ≤ k → k < length row → p ≤ get_or row k 0 = λ k from below. absurd (omega (arith, from, below, h)) in (
      s.bits_are ∙ sym (sum-gap (share g (λ x y. x * y) p) s.upto p s.low (λ x from below. gap_none g p row n b c p list s (omega arith) next (λ x y. x * y) x from below)),
      s.cells_are ∙ sym (sum-gap (share g (λ x y. x + y) p) s.upto p s.low (λ x from below. gap_none g p row n b c p list s (omega arith) next (λ x y. x + y) x from below)),
    )
