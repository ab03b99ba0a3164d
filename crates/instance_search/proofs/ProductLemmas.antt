-- The walk of a pruned instance has no more nodes than the product over the packages of the instance.
use Rattle.std.proofs.Common.{◌≡◌, ℕ, zero, suc, ◌+◌, ◌<◌, ◌≤◌, refl, sym, subst, arith, inl, inr}
use Rattle.std.proofs.lemmas.Bool.{cases_eq}
use Rattle.std.proofs.Math.Nat.{mul-le-mul_left, mul-le-mul_right, mul-one, one-le-mul}
use Rattle.version_graph.specs.Graph.{Graph, packages, states}
use Rattle.version_graph.specs.Part.{Part, package_of, state_of}
use Rattle.graph_pruning.specs.Pruned.{Pruning}
use Rattle.graph_pruning.specs.Reduced.{IsReduction}
use Rattle.graph_pruning.proofs.PruneLemmas.{closed_known, left_closed}
use Rattle.graph_pruning.proofs.ReduceLemmas.{home}
use Rattle.decimation_repair.specs.Bound.{product_below, most_nodes, WalkStaysWithin}
use Rattle.instance_search.specs.Searched.{at_once, by_walk}
use Rattle.instance_search.specs.Laws.{ProductSuffices}

product-some : (f : ℕ → ℕ) → ((p : ℕ) → 1 ≤ f p) → (n : ℕ) → 1 ≤ product_below f n
product-some f some zero = omega arith
product-some f some (suc n) = one-le-mul (product-some f some n) (some n)

most-some : (g : Graph) (n : ℕ) → 1 ≤ product_below (λ p. states g p + 1) n
most-some g n = product-some (λ p. states g p + 1) (λ p. omega arith) n

module _ (g : Graph) (pr : Pruning) (h : Graph) (b : Part) (r : IsReduction g pr h b) where
  pub state_known : (p i : ℕ) → p < packages h → i < states h p → state_of b p i < states g (package_of b p)
  state_known p i known here =
      (closed_known g pr.closed (package_of b p) (state_of b p i) r.pruning.closure (left_closed g pr (package_of b p) (state_of b p i) (r.reduced.states_sound p i known here).inside)).1

  state-above : (p i : ℕ) → p < packages h → i < states h p → i ≤ state_of b p i
  state-above p zero known here = omega arith
  state-above p (suc i) known here =
      let low = state-above p i known (omega (arith, here)) in
      let step = r.reduced.states_rising p i (suc i) known (omega arith) here in
      omega (arith, low, step)

  no-wider : (p : ℕ) → p < packages h → states h p ≤ states g (package_of b p)
  no-wider p known = by_count (states h p) refl
    where
      by_count : (n : ℕ) → states h p ≡ n → n ≤ states g (package_of b p)
      by_count zero e = omega arith
      by_count (suc n) e =
          let low = state-above p n known (omega (arith, e)) in
          let high = state_known p n known (omega (arith, e)) in
          omega (arith, low, high)

  product-within : (m n : ℕ) → n ≤ packages h → ((k : ℕ) → k < n → package_of b k < m) → product_below (λ p. states h p + 1) n ≤ product_below (λ p. states g p + 1) m
  product-within m zero few inside = most-some g m
  product-within zero (suc n) few inside = (let l = inside n (omega arith) in absurd (omega (arith, l)))
  product-within (suc m) (suc n) few inside =
      elim (cases_eq (package_of b n) m) [
        | inl here ↦
            let low = product-within m n (omega (arith, few)) (λ k l. let up = r.reduced.rising k n l (omega (arith, few)) in omega (arith, up, here)) in
            let first = mul-le-mul_right (states h n + 1) low in
            let wide : states h n ≤ states g m = subst (λ q. states h n ≤ states g q) here (no-wider n (omega (arith, few))) in
            let second = mul-le-mul_left (product_below (λ p. states g p + 1) m) (more-than wide) in
            omega (arith, first, second)
        | inr apart ↦
            let low = product-within m (suc n) few (below_last inside apart) in
            let more = mul-le-mul_left (product_below (λ p. states g p + 1) m) (at-least (states g m)) in
            let same = mul-one (product_below (λ p. states g p + 1) m) in
            omega (arith, low, more, same)
      ]
    where
      more-than : {x y : ℕ} → x ≤ y → x + 1 ≤ y + 1
      more-than e = omega (arith, e)

      at-least : (x : ℕ) → 1 ≤ x + 1
      at-least x = omega arith

      below_last : ((k : ℕ) → k < suc n → package_of b k < suc m) → (package_of b n ≡ m → ⊥) → (k : ℕ) → k < suc n → package_of b k < m
      below_last inside apart k l =
          let top = inside n (omega arith) in
          elim (cases_eq k n) [
            | inl same ↦ (let t = inside k l in subst (λ q. package_of b q < m) (sym same) (omega (arith, top, apart)))
            | inr other ↦ (let up = r.reduced.rising k n (omega (arith, l, other)) (omega (arith, few)) in omega (arith, up, top, apart))
          ]

  pub most_within : most_nodes h ≤ most_nodes g
  most_within = product-within (packages g) (packages h) (omega arith) (λ k l. home g pr h b r k l)

pub product_is_enough : WalkStaysWithin → ProductSuffices
product_is_enough stays g budget log (at_once d) =
    let some : 1 ≤ most_nodes g = most-some g (packages g) in
    let none = d.ends.0 in
    omega (arith, some, none)
product_is_enough stays g budget log (by_walk w) =
    let e = w.ends in
    let low : budget < most_nodes w.pruned = (stays w.weights).spends w.pruned budget e.nodes e.spends in
    let up : most_nodes w.pruned ≤ most_nodes g = most_within g w.pruning w.pruned w.back w.reduction in
    omega (arith, low, up)
