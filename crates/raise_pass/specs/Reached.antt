-- Packages that are marked while those that are reached are looked for, and the list of them in the order of the search.
use Rattle.std.specs.Prelude.{◌≡◌, ℕ, ◌<◌, ◌≤◌, Bool, true, false, List, length, slice_index, slice_index_or, Contains}
use Rattle.version_graph.specs.Domain.{count_true}
use Rattle.version_graph.specs.Graph.{Graph, packages, does_need}
use Rattle.raise_pass.specs.Finishing.{IsReached}

-- whether p is marked
unfoldable pub is_marked : List Bool → ℕ → Bool
is_marked marks p = slice_index_or marks p false

-- no package below n is marked
pub record IsUnmarkedBelow (n : ℕ) (marks : List Bool) : Type 0 where
  pub none : (p : ℕ) → p < n → is_marked marks p ≡ false

-- the list has each marked package once
pub record AreListed (g : Graph) (marks : List Bool) (order : List ℕ) : Type 0 where
  pub each : length marks ≡ packages g
  pub counted : length order ≡ count_true marks
  pub marked : (k : ℕ) → k < length order → is_marked marks (slice_index_or order k 0) ≡ true
  pub known : (k : ℕ) → k < length order → slice_index_or order k 0 < packages g
  pub listed : (p : ℕ) → is_marked marks p ≡ true → Contains order p

-- each marked package is reached
pub record AreReached (g : Graph) (chosen : List ℕ) (marks : List Bool) : Type 0 where
  pub sound : (p : ℕ) → is_marked marks p ≡ true → IsReached g chosen p

-- what the first packages of the list need is marked
pub record AreSpread (g : Graph) (chosen : List ℕ) (marks : List Bool) (order : List ℕ) (count : ℕ) : Type 0 where
  pub needs : (k q : ℕ) → k < count → k < length order → does_need g (slice_index_or order k 0) (slice_index chosen (slice_index_or order k 0)) q ≡ true → is_marked marks q ≡ true

-- what was marked is marked, and the list goes on
pub record Grows (old new : List Bool) (order more : List ℕ) : Type 0 where
  pub marks : (p : ℕ) → is_marked old p ≡ true → is_marked new p ≡ true
  pub longer : length order ≤ length more
  pub same : (k : ℕ) → k < length order → slice_index_or more k 0 ≡ slice_index_or order k 0
