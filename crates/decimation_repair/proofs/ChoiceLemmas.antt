-- The choice by beliefs is lawful: it names a package with two or more closed states and each of these once, and it is one.
use Rattle.std.proofs.Common.{◌≡◌, ◌≢◌, ℕ, ◌*◌, ◌<◌, ◌≤◌, true, List, length, get_or, take, sym, ◌∙◌, ap, subst, arith, inl, inr, eqb}
use Rattle.std.proofs.lemmas.Bool.{cases_lt, cases_eq, ne_eqb, eqb-true}
use Rattle.std.proofs.lemmas.List.{get_or_default}
use Rattle.std.proofs.lemmas.Map.Steps.{length-le_from_distinct_below}
use Rattle.std.proofs.lemmas.Map.Keys.{IsDistinct-from_apart}
use Rattle.std.proofs.lemmas.Map.Views.{Contains-from_any}
use Rattle.std.specs.List.{Contains, IsDistinct}
use Rattle.std.specs.Ordering.{ordering_then, nat_cmp}
use Rattle.std.specs.declared.cmp.Ordering.TheVariants.{Equal}
use Rattle.std.specs.Cmp.{tied_itself, nat_cmp_total}
use Rattle.version_graph.specs.Graph.{Graph, packages, states}
use Rattle.version_graph.specs.Family.{Family, InClosure, under}
use Rattle.maxsum_messages.specs.Belief.{belief}
use Rattle.maxsum_messages.specs.Choice.{IsLead, IsChosen, Trails, TrailsClearly, standing, IsBefore, IsFalling, AreInOrder}
use Rattle.maxsum_messages.proofs.One.{chosen-one}
use Rattle.maxsum_messages.proofs.OneList.{order-one}
use Rattle.refutation_log.specs.Refutes.{Prefix}
use Rattle.decimation_repair.specs.Walk.{Choice, IsChoice}
use Rattle.decimation_repair.specs.Levels.{Levels, zero_levels, plus_levels, minus_levels, compare_levels}
use Rattle.decimation_repair.specs.Choice.{IsCutOf, AreHeard, BeliefChoice}
use Rattle.decimation_repair.proofs.EndLemmas.{closed-small}
use Rattle.decimation_repair.proofs.LevelLemmas.{compare-total, tied-same}
use Rattle.decimation_repair.proofs.HeardLemmas.{closure-one, heard-one}

-- the place of a listed number
place-of : (xs : List ℕ) (x : ℕ) → Contains xs x → (k : ℕ) × (k < length xs) × (get_or xs k 0 ≡ x)
place-of xs x c = (c.0, c.1, get_or_default xs c.0 0 x c.1 ∙ c.2)

-- two numbers of a list mean that it has two places
two-places : (xs : List ℕ) (i j : ℕ) → i ≢ j → Contains xs i → Contains xs j → 2 ≤ length xs
two-places xs i j ne c d =
    let p = place-of xs i c in
    let q = place-of xs j d in
    elim (cases_eq p.0 q.0) [
      | inl same ↦ absurd (ne (sym p.2 ∙ ap (λ k. get_or xs k 0) same ∙ q.2))
      | inr apart ↦ (let a = p.1 in let b = q.1 in omega (arith, a, b, apart))
    ]

cut-one : (prefix one two : Prefix) → IsCutOf prefix one → IsCutOf prefix two → one ≡ two
cut-one prefix one two a b =
    let low = a.inside in
    let high = b.most in
    let down = b.inside in
    let up = a.most in
    let same : a.blocks ≡ b.blocks = omega (arith, low, high, down, up) in
    a.cut_is ∙ ap (λ n. take (16 * n) prefix) same ∙ sym b.cut_is

-- nothing is tried before itself
before-itself : (value : ℕ → Levels) (i : ℕ) → IsBefore compare_levels value i i → ⊥
before-itself value i h =
    let same : standing compare_levels value i i ≡ Equal = ap (λ o. ordering_then o (nat_cmp i i)) (tied_itself compare-total (value i)) ∙ tied_itself nat_cmp_total i in
    cc

falling-once : (value : ℕ → Levels) (xs : List ℕ) → IsFalling compare_levels value xs → (j k : ℕ) → j < length xs → k < length xs → get_or xs j 0 ≡ get_or xs k 0 → j ≡ k
falling-once value xs f j k hj hk e = elim (cases_lt j k) [
  | inl a ↦ absurd (before-itself value (get_or xs k 0) (subst (λ x. IsBefore compare_levels value x (get_or xs k 0)) e (f j k a hk)))
  | inr b ↦ elim (cases_eq j k) [
    | inl same ↦ same
    | inr ne ↦ absurd (before-itself value (get_or xs k 0) (subst (IsBefore compare_levels value (get_or xs k 0)) e (f k j (omega (arith, b, ne)) hj)))
  ]
]

-- the same values of each package give the same choice
chosen-alike : (n : ℕ) (d : Family) (v w : ℕ → ℕ → Levels) (p : ℕ) → ((q : ℕ) → q < n → v q ≡ w q) → IsChosen compare_levels minus_levels n d v p → IsChosen compare_levels minus_levels n d w p
chosen-alike n d v w p e c = record {
  known = c.known;
  lead = c.lead;
  led = subst (λ x. IsLead compare_levels minus_levels (d p) x c.lead) (e p c.known) c.led;
  most = λ q h. subst (λ x. Trails compare_levels minus_levels (d q) x c.lead) (e q h) (c.most q h);
  least = λ q h. (let known = c.known in subst (λ x. TrailsClearly compare_levels minus_levels (d q) x c.lead) (e q (omega (arith, h, known))) (c.least q h));
}

-- what is believed at a prefix is one
values-one : (f : List (List Levels)) (g : Graph) (prefix : Prefix) (p q : ℕ) (xs ys : List ℕ) → (a : BeliefChoice f g prefix p xs) → (b : BeliefChoice f g prefix q ys) →
    (r : ℕ) → r < packages g → belief zero_levels plus_levels f b.messages r ≡ belief zero_levels plus_levels f a.messages r
values-one f g prefix p q xs ys a b =
    heard-one f g a.cut b.messages a.messages (subst (λ c. AreHeard f g c b.messages) (cut-one prefix b.cut a.cut b.cut_is a.cut_is) b.heard) a.heard

package-one : (f : List (List Levels)) (g : Graph) (prefix : Prefix) (p q : ℕ) (xs ys : List ℕ) → BeliefChoice f g prefix p xs → BeliefChoice f g prefix q ys → p ≡ q
package-one f g prefix p q xs ys a b =
    let closed = closure-one g (under g prefix) b.closed a.closed b.closure a.closure in
    let there = subst (λ d. IsChosen compare_levels minus_levels (packages g) d (belief zero_levels plus_levels f b.messages) q) closed b.chosen in
    chosen-one compare_levels compare-total tied-same minus_levels (packages g) a.closed (belief zero_levels plus_levels f a.messages) p q a.chosen
    (chosen-alike (packages g) a.closed (belief zero_levels plus_levels f b.messages) (belief zero_levels plus_levels f a.messages) q (values-one f g prefix p q xs ys a b) there)

order-same : (f : List (List Levels)) (g : Graph) (prefix : Prefix) (p : ℕ) (xs ys : List ℕ) → BeliefChoice f g prefix p xs → BeliefChoice f g prefix p ys → xs ≡ ys
order-same f g prefix p xs ys a b =
    let closed = closure-one g (under g prefix) b.closed a.closed b.closure a.closure in
    let there = subst (λ (d : Family). AreInOrder compare_levels (d p) (belief zero_levels plus_levels f b.messages p) ys) closed b.in_order in
    order-one compare_levels compare-total (belief zero_levels plus_levels f a.messages p) (a.closed p) xs ys a.in_order
    (subst (λ v. AreInOrder compare_levels (a.closed p) v ys) (values-one f g prefix p p xs ys a b p a.chosen.known) there)

passes : (f : List (List Levels)) (g : Graph) (prefix : Prefix) (p : ℕ) (xs : List ℕ) → BeliefChoice f g prefix p xs → (i : ℕ) → Contains xs i → InClosure g (under g prefix) p i
passes f g prefix p xs a i c = let at = place-of xs i c in a.closure.sound p i (subst (λ n. a.closed p n ≡ true) at.2 (a.in_order.passing at.0 at.1))

pub belief-lawful : (f : List (List Levels)) → IsChoice (BeliefChoice f)
belief-lawful f = record {
  known = λ g prefix p order a. a.chosen.known;
  closed = passes f;
  whole = λ g prefix p order a i k. a.in_order.whole i (a.closure.whole p i k);
  once = λ g prefix p order a. falling-once (belief zero_levels plus_levels f a.messages p) order a.in_order.falling;
  several = λ g prefix p order a.
      two-places order a.chosen.led.second a.chosen.led.first a.chosen.led.apart (a.in_order.whole a.chosen.led.second a.chosen.led.second_passes) (a.in_order.whole a.chosen.led.first a.chosen.led.first_passes);
  one_package = package-one f;
  one_order = order-same f;
}

-- ---- an order is no longer than its package has states

apart-order : (choose : Choice) → IsChoice choose → (g : Graph) (prefix : Prefix) (p : ℕ) (order : List ℕ) → choose g prefix p order → IsDistinct eqb order
apart-order choose law g prefix p order c = IsDistinct-from_apart eqb order (λ i j d h b. ne_eqb (get_or order i d) (get_or order j d) (λ e.
    let first = get_or_default order i d 0 (omega (arith, h, b)) in
    let second = get_or_default order j d 0 b in
    let same = law.once g prefix p order c i j (omega (arith, h, b)) b (sym first ∙ e ∙ second) in
    omega (arith, h, same)))

pub order-fits : (choose : Choice) → IsChoice choose → (g : Graph) (prefix : Prefix) (p : ℕ) (order : List ℕ) → choose g prefix p order → length order ≤ states g p
order-fits choose law g prefix p order c =
    length-le_from_distinct_below order (states g p) (apart-order choose law g prefix p order c) (λ q is. closed-small g prefix p q (law.closed g prefix p order c q (Contains-from_any {eq = eqb} (λ x y e. eqb-true x y e) q order is)))
