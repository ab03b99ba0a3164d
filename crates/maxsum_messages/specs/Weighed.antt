-- The states of a package with what they weigh.
use Rattle.std.specs.Prelude.{◌≡◌, ℕ, ◌<◌, Bool, true, List}
use Rattle.std.specs.Ordering.{ordering_then, nat_cmp}
use Rattle.std.specs.declared.cmp.Ordering.{Ordering}
use Rattle.std.specs.List.{All, Contains}
use Rattle.std.specs.List.Sorted.{IsSorted}

-- numbers that pass, each with its value; and each number below n that passes is there
pub record AreWeighedBelow {W : Type 0} (n : ℕ) (test : ℕ → Bool) (value : ℕ → W) (xs : List (W × ℕ)) : Type 0 where
  pub each : All (λ x. (test x.1 ≡ true) × (x.0 ≡ value x.1)) xs
  pub whole : (i : ℕ) → i < n → test i ≡ true → Contains xs (value i, i)

-- the numbers that pass, each with its value
pub record AreWeighed {W : Type 0} (test : ℕ → Bool) (value : ℕ → W) (xs : List (W × ℕ)) : Type 0 where
  pub each : All (λ x. (test x.1 ≡ true) × (x.0 ≡ value x.1)) xs
  pub whole : (i : ℕ) → test i ≡ true → Contains xs (value i, i)

-- where a weight with its number stands to another: by the weight, and then by the number
abbrev pub by_weight : {W : Type 0} → (W → W → Ordering) → W × ℕ → W × ℕ → Ordering
by_weight cmp x y = ordering_then (cmp x.0 y.0) (nat_cmp x.1 y.1)

-- numbers below n with small weights, the least weight first
pub record AreRising {W : Type 0} (Small : W → Type 0) (cmp : W → W → Ordering) (n : ℕ) (xs : List (W × ℕ)) : Type 0 where
  pub each : All (λ x. Small x.0 × (x.1 < n)) xs
  pub sorted : IsSorted (by_weight cmp) xs
