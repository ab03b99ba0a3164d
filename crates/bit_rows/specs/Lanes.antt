-- What a vector of eight words says.
use Rattle.std.specs.Prelude.{◌≡◌, ℕ, ◌<◌, List, length, slice_index}

-- v has eight lanes, and lane k holds f k
pub record HasLanes (v : List ℕ) (f : ℕ → ℕ) : Type 0 where
  pub long : length v ≡ 8
  pub each : (k : ℕ) → k < 8 → slice_index v k ≡ f k
