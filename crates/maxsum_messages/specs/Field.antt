-- The fields: for each package and state, the weight that it has by itself. (own rule, after Pkg's resolver)
use Rattle.std.specs.Prelude.{◌≡◌, ℕ, ◌<◌, List, [], length, slice_index_or}
use Rattle.version_graph.specs.Graph.{Graph, packages, states}

-- the field of the state i of p; the zero weight where there is no such place
abbrev pub field : {W : Type 0} → W → List (List W) → ℕ → ℕ → W
field none f p i = slice_index_or (slice_index_or f p []) i none

-- a field for each state of the instance
pub record AreFieldsFor {W : Type 0} (g : Graph) (f : List (List W)) : Type 0 where
  pub each : length f ≡ packages g
  pub wide : (p : ℕ) → p < packages g → length (slice_index_or f p []) ≡ states g p

-- each field is within the bound
pub record AreWithin {W : Type 0} (Within : W → Type 0) (none : W) (f : List (List W)) : Type 0 where
  pub at : (p i : ℕ) → Within (field none f p i)
