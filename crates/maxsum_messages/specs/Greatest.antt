-- The greatest of the values at the numbers that pass a test.
use Rattle.std.specs.Prelude.{◌≡◌, ℕ, Bool, true, false}
use Rattle.std.specs.Ordering.{is_gt}
use Rattle.std.specs.declared.cmp.Ordering.{Ordering}

pub record IsGreatest {W : Type 0} (cmp : W → W → Ordering) (test : ℕ → Bool) (value : ℕ → W) (best : W) : Type 0 where
  pub place : ℕ
  pub passes : test place ≡ true
  pub here : best ≡ value place
  pub most : (i : ℕ) → test i ≡ true → is_gt (cmp (value i) best) ≡ false
