-- All instances that stand for a book and a demand have the same sums.
use Rattle.std.proofs.Common.{◌≡◌, ◌≢◌, ℕ, zero, suc, ◌+◌, ◌*◌, ◌<◌, Bool, true, cond, List, length, refl, sym, ap, ◌∙◌, arith}
use Rattle.std.specs.List.{list_any, range_with_len}
use Rattle.std.proofs.lemmas.List.Folds.{Any-from_list_any}
use Rattle.std.proofs.lemmas.List.FromFn.{length-range_with_len, get_or-range_with_len}
use Rattle.offer_terms.specs.Booked.{Packed}
use Rattle.offer_terms.specs.Demanded.{Wanted}
use Rattle.version_graph.specs.Graph.{Graph, packages, states, is_forbidden, are_neighbours, share, sum_below, neighbour_sum}
use Rattle.version_graph.proofs.GraphLemmas.{both_true, in_range}
use Rattle.book_graph.specs.StandsFor.{StandsFor}
use Rattle.book_graph.specs.Laws.{SumsAreOne}

-- a number of the range that passes
in_range_of : (test : ℕ → Bool) (n : ℕ) → list_any test (range_with_len 0 n) ≡ true → (i : ℕ) × (i < n) × (test i ≡ true)
in_range_of test n is =
    let a = Any-from_list_any test (range_with_len 0 n) is in
    let below : a.0 < n = (let k = a.2 in omega (arith, k, length-range_with_len 0 n)) in
    let same : a.1 ≡ a.0 = sym a.3 ∙ get_or-range_with_len 0 n a.0 a.1 below ∙ (let e : 0 + a.0 ≡ a.0 = omega arith in e) in
    (a.0, below, ap test (sym same) ∙ a.4)

same_sum : (f f' : ℕ → ℕ) (n : ℕ) → ((k : ℕ) → k < n → f k ≡ f' k) → sum_below f n ≡ sum_below f' n
same_sum f f' zero same = refl
same_sum f f' (suc n) same = (λ i. same_sum f f' n (λ k below. same k (omega (arith, below))) i + same n (omega arith) i)

module _ (book : List Packed) (w : Wanted) (g h : Graph) (a : StandsFor book w g) (b : StandsFor book w h) where
  states_alike : (p : ℕ) → p < length book → states g p ≡ states h p
  states_alike p inside = a.wide p inside ∙ sym (b.wide p inside)

  pub neighbours_to : (p q : ℕ) → p < length book → q < length book → p ≢ q → are_neighbours g p q ≡ true → are_neighbours h p q ≡ true
  unfolding are_neighbours
  neighbours_to p q first second ne is =
      let i = in_range_of (λ x. list_any (λ y. is_forbidden g p x q y) (range_with_len 0 (states g q))) (states g p) is in
      let j = in_range_of (λ y. is_forbidden g p i.0 q y) (states g q) i.2 in
      let state = i.1 in
      let other = j.1 in
      in_range (λ x. list_any (λ y. is_forbidden h p x q y) (range_with_len 0 (states h q))) (states h p) i.0 (omega (arith, state, states_alike p first))
      (in_range (λ y. is_forbidden h p i.0 q y) (states h q) j.0 (omega (arith, other, states_alike q second))
      ((b.forbidden p i.0 q j.0 first (omega (arith, state, a.wide p first)) second (omega (arith, other, a.wide q second)) ne).1
      ((a.forbidden p i.0 q j.0 first (omega (arith, state, a.wide p first)) second (omega (arith, other, a.wide q second)) ne).0 j.2)))

module _ (book : List Packed) (w : Wanted) (g h : Graph) (a : StandsFor book w g) (b : StandsFor book w h) where
  share_alike : (f : ℕ → ℕ → ℕ) (p q : ℕ) → p < length book → q < p → share g f p q ≡ share h f p q
  unfolding share
  share_alike f p q first below =
      let second : q < length book = omega (arith, first, below) in
      let ne : p ≢ q = λ same. absurd (omega (arith, same, below)) in
      let near : are_neighbours g p q ≡ are_neighbours h p q = both_true (are_neighbours g p q) (are_neighbours h p q)
      (neighbours_to book w g h a b p q first second ne) (neighbours_to book w h g b a p q first second ne) in
      (λ i. cond (near i) (f (states_alike book w g h a b p first i) (states_alike book w g h a b q second i)) 0)

  pub sums_alike : (f : ℕ → ℕ → ℕ) → neighbour_sum g f ≡ neighbour_sum h f
  unfolding neighbour_sum
  sums_alike f =
      same_sum (λ p. sum_below (λ q. share g f p q) p) (λ p. sum_below (λ q. share h f p q) p) (packages g)
      (λ p below. same_sum (λ q. share g f p q) (λ q. share h f p q) p (λ q lower. share_alike f p q (let each = a.each in omega (arith, below, each)) lower))
      ∙ ap (sum_below (λ p. sum_below (λ q. share h f p q) p)) (a.each ∙ sym b.each)

pub sums_are_one : SumsAreOne
sums_are_one book w g h a b = (sums_alike book w g h a b (λ x y. x * y), sums_alike book w g h a b (λ x y. x + y))
