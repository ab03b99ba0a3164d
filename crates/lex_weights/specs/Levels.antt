-- One level of a weight: a whole number, and the limit that a clip brings it to. (own rule, after Pkg's
-- resolver, whose messages are capped)
use Rattle.std.specs.Prelude.{ℕ, ◌^◌, ℤ, pos, neg_ℤ, ◌≤ℤ◌, Bool, ◌||◌}
use Rattle.std.specs.Int.{int_max, int_min}
use Rattle.std.specs.Ordering.{int_eq}

-- the nearest number within plus or minus 2^40
abbrev pub clipped : ℤ → ℤ
clipped z = int_max (neg_ℤ (pos (2 ^ 40))) (int_min z (pos (2 ^ 40)))

-- whether the number is 2^40 or -2^40
abbrev pub is_limit : ℤ → Bool
is_limit z = int_eq z (pos (2 ^ 40)) || int_eq z (neg_ℤ (pos (2 ^ 40)))

-- the number lies within plus or minus n
pub record IsWithin (n : ℕ) (z : ℤ) : Type 0 where
  pub above : neg_ℤ (pos n) ≤ℤ z
  pub below : z ≤ℤ pos n
