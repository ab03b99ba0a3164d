-- For each state, the packages that it needs, as a list for each package and state.
use Rattle.std.specs.Prelude.{◌≡◌, ℕ, ◌<◌, List, [], ◌∷◌, ◌++◌, length, slice_index_or}
use Rattle.version_graph.specs.Graph.{Graph, packages, states, does_need, IsListOf}
use Rattle.version_graph.specs.Flat.{Flat}

abbrev pub need_row : List (List (List ℕ)) → ℕ → ℕ → List ℕ
need_row needs p i = slice_index_or (slice_index_or needs p []) i []

-- for each state of the instance, the packages that it needs, rising
pub record AreNeeds (g : Graph) (needs : List (List (List ℕ))) : Type 0 where
  pub each : length needs ≡ packages g
  pub wide : (p : ℕ) → p < packages g → length (slice_index_or needs p []) ≡ states g p
  pub rows : (p i : ℕ) → p < packages g → i < states g p → IsListOf (does_need g p i) (need_row needs p i)

-- the row of what the state i of p needs stands behind the old rows
pub record AddsNeed (g : Graph) (p i : ℕ) (old new : Flat) : Type 0 where
  pub row : List ℕ
  pub rows : new.rows ≡ old.rows ++ row ∷ []
  pub ended : new.rest ≡ []
  pub list : IsListOf (does_need g p i) row

-- the rows of the first n states of p stand behind the old rows
pub record AddsNeeds (g : Graph) (p n : ℕ) (old new : Flat) : Type 0 where
  pub block : List (List ℕ)
  pub rows : new.rows ≡ old.rows ++ block
  pub ended : new.rest ≡ []
  pub wide : length block ≡ n
  pub lists : (i : ℕ) → i < n → IsListOf (does_need g p i) (slice_index_or block i [])
