-- The same numbers in one order are one list: rising, or in the order in which they are tried.
use Rattle.std.proofs.Common.{◌≡◌, ◌≢◌, ℕ, zero, suc, ◌+◌, ◌<◌, Bool, true, List, [], ◌∷◌, length, get_or, refl, sym, ◌∙◌, subst, ap, arith}
use Rattle.std.proofs.lemmas.List.{get_or_default}
use Rattle.std.specs.List.{Contains}
use Rattle.std.specs.List.Sorted.{IsStrictlyIncreasing}
use Rattle.std.specs.Ordering.{ordering_reverse}
use Rattle.std.specs.declared.cmp.Ordering.{Ordering}
use Rattle.std.specs.declared.cmp.Ordering.TheVariants.{Greater}
use Rattle.std.specs.Cmp.{IsTotalOrder}
use Rattle.version_graph.specs.Graph.{IsListOf}
use Rattle.maxsum_messages.specs.Choice.{standing, IsBefore, AreInOrder}
use Rattle.maxsum_messages.proofs.InOrder.{stands}
use Rattle.maxsum_messages.proofs.Sums.{rising-ordered}

-- the place of a listed number
place-of : (xs : List ℕ) (x : ℕ) → Contains xs x → (k : ℕ) × (k < length xs) × (get_or xs k 0 ≡ x)
place-of xs x c = (c.0, c.1, get_or_default xs c.0 0 x c.1 ∙ c.2)

at-first : (x : ℕ) (xs : List ℕ) → Contains (x ∷ xs) x
at-first x xs = (0, omega arith, refl)

passed : (test : ℕ → Bool) (xs : List ℕ) → ((k : ℕ) → k < length xs → test (get_or xs k 0) ≡ true) → (i : ℕ) → Contains xs i → test i ≡ true
passed test xs all i c = let p = place-of xs i c in subst (λ n. test n ≡ true) p.2 (all p.0 p.1)

-- of two numbers not each comes before the other
module _ (Before : ℕ → ℕ → Type 0) (once : (i j : ℕ) → Before i j → Before j i → ⊥) where
  -- each number comes before all later ones
  abbrev Follows : List ℕ → Type 0
  Follows xs = (k l : ℕ) → k < l → l < length xs → Before (get_or xs k 0) (get_or xs l 0)

  follows-tail : (x : ℕ) (xs : List ℕ) → Follows (x ∷ xs) → Follows xs
  follows-tail x xs f = λ k l h end. f (suc k) (suc l) (omega (arith, h)) (omega (arith, end))

  follows-head : (x : ℕ) (xs : List ℕ) → Follows (x ∷ xs) → (k : ℕ) → k < length xs → Before x (get_or xs k 0)
  follows-head x xs f k h = f zero (suc k) (omega arith) (omega (arith, h))

  same-head : (x y : ℕ) (xs ys : List ℕ) → Follows (x ∷ xs) → Follows (y ∷ ys) → Contains (y ∷ ys) x → Contains (x ∷ xs) y → x ≡ y
  same-head x y xs ys f h to from =
      let c = place-of (y ∷ ys) x to in
      let d = place-of (x ∷ xs) y from in
      by_places c.0 c.1 c.2 d.0 d.1 d.2
    where
      by_places : (k : ℕ) → k < length (y ∷ ys) → get_or (y ∷ ys) k 0 ≡ x → (l : ℕ) → l < length (x ∷ xs) → get_or (x ∷ xs) l 0 ≡ y → x ≡ y
      by_places zero b e l end same = sym e
      by_places (suc k) b e zero end same = same
      by_places (suc k) b e (suc l) end same =
          absurd (once x y
          (subst (Before x) same (follows-head x xs f l (omega (arith, end))))
          (subst (Before y) e (follows-head y ys h k (omega (arith, b)))))

  tail-place : (y i : ℕ) (ys : List ℕ) (k : ℕ) → k < length (y ∷ ys) → get_or (y ∷ ys) k 0 ≡ i → y ≢ i → Contains ys i
  tail-place y i ys zero b e apart = absurd (apart e)
  tail-place y i ys (suc k) b e apart = (k, omega (arith, b), get_or_default ys k i 0 (omega (arith, b)) ∙ e)

  -- what stands behind equal first numbers
  in-tail : (x y : ℕ) (xs ys : List ℕ) → Follows (x ∷ xs) → x ≡ y → ((i : ℕ) → Contains (x ∷ xs) i → Contains (y ∷ ys) i) → (i : ℕ) → Contains xs i → Contains ys i
  in-tail x y xs ys f head to i c =
      let p = place-of xs i c in
      let inside = p.1 in
      let before : Before x i = subst (Before x) p.2 (follows-head x xs f p.0 inside) in
      let q = place-of (y ∷ ys) i (to i (suc p.0, omega (arith, inside), get_or_default xs p.0 i 0 inside ∙ p.2)) in
      tail-place y i ys q.0 q.1 q.2 (λ e. (let own : Before x x = subst (Before x) (sym (head ∙ e)) before in once x x own own))

  pub same-list : (xs ys : List ℕ) → Follows xs → Follows ys → ((i : ℕ) → Contains xs i → Contains ys i) → ((i : ℕ) → Contains ys i → Contains xs i) → xs ≡ ys
  same-list [] [] f h to from = refl
  same-list [] (y ∷ ys) f h to from = let b = (from y (at-first y ys)).1 in absurd (omega (arith, b))
  same-list (x ∷ xs) [] f h to from = let b = (to x (at-first x xs)).1 in absurd (omega (arith, b))
  same-list (x ∷ xs) (y ∷ ys) f h to from =
      let head : x ≡ y = same-head x y xs ys f h (to x (at-first x xs)) (from y (at-first y ys)) in
      ap (λ z. z ∷ xs) head ∙ ap (λ z. y ∷ z) (same-list xs ys (follows-tail x xs f) (follows-tail y ys h) (in-tail x y xs ys f head to) (in-tail y x ys xs h (sym head) from))

-- a choice has one order
module _ {W : Type 0} (cmp : W → W → Ordering) (total : IsTotalOrder cmp) (value : ℕ → W) where
  before-once : (i j : ℕ) → IsBefore cmp value i j → IsBefore cmp value j i → ⊥
  before-once i j h k = let turned : standing cmp value i j ≡ Greater = (stands cmp total value).antisymm i j ∙ ap ordering_reverse k in cc

  pub order-one : (test : ℕ → Bool) (xs ys : List ℕ) → AreInOrder cmp test value xs → AreInOrder cmp test value ys → xs ≡ ys
  order-one test xs ys a b =
      same-list (λ i j. IsBefore cmp value i j) before-once xs ys a.falling b.falling
      (λ i c. b.whole i (passed test xs a.passing i c)) (λ i c. a.whole i (passed test ys b.passing i c))

-- the numbers that pass a test, rising, are one list
pub list-one : (test : ℕ → Bool) (xs ys : List ℕ) → IsListOf test xs → IsListOf test ys → xs ≡ ys
list-one test xs ys a b =
    same-list (λ i j. i < j) (λ i j h k. omega (arith, h, k)) xs ys (rises xs a.rising) (rises ys b.rising)
    (λ i c. b.whole i (passed test xs a.sound i c)) (λ i c. a.whole i (passed test ys b.sound i c))
  where
    rises : (zs : List ℕ) → IsStrictlyIncreasing zs → (k l : ℕ) → k < l → l < length zs → get_or zs k 0 < get_or zs l 0
    rises zs up k l h end =
        let step : get_or zs k 0 < get_or zs (k + 1) 0 = up k (omega (arith, h, end)) in
        let far = rising-ordered zs up (k + 1) l (omega (arith, h)) end in
        omega (arith, step, far)
