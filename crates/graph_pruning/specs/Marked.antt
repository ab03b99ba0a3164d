-- How it is kept which packages are kept and which states stand for others: by package, and by package and state.
use Rattle.std.specs.Prelude.{◌≡◌, ℕ, ◌<◌, Bool, false, ◌&&◌, ◌==◌, List, [], length, slice_index_or, MatchBool}
use Rattle.version_graph.specs.Graph.{Graph, packages, states}
use Rattle.version_graph.specs.Family.{Family, IsFilled, HasEmpty, under}
use Rattle.graph_pruning.specs.Pruned.{Pruning, left, IsPruningOf}

-- whether the package is marked
abbrev pub marked : List Bool → ℕ → Bool
marked marks p = slice_index_or marks p false

-- the state that stands for the state i of p
abbrev pub standing_in : List (List ℕ) → ℕ → ℕ → ℕ
standing_in rows p i = slice_index_or (slice_index_or rows p []) i i

-- a place for each state of the instance
pub record HasRows (g : Graph) (rows : List (List ℕ)) : Type 0 where
  pub each : length rows ≡ packages g
  pub wide : (p : ℕ) → p < packages g → length (slice_index_or rows p []) ≡ states g p

-- whether the state i of p is in its domain and stands for its class
abbrev pub does_stand : Family → (ℕ → ℕ → ℕ) → ℕ → ℕ → Bool
does_stand f standing p i = f p i && (standing p i == i)

-- the pruning that closed domains, marks and rows make
abbrev pub pruning_of : Family → List Bool → List (List ℕ) → Pruning
pruning_of closed kept rows = record { closed = closed; kept = marked kept; standing = standing_in rows }

-- the marks and rows are those of the instance's pruning, the domains are the pruned ones, and none of the closed
-- ones is empty exactly where they are said to be open
pub record IsPruned (g : Graph) (f : Family) (marks : List Bool) (rows : List (List ℕ)) (open_ : Bool) : Type 0 where
  pub closed : Family
  pub pruning : IsPruningOf g (pruning_of closed marks rows)
  pub domains : (p i : ℕ) → f p i ≡ left g (pruning_of closed marks rows) p i
  pub each : length marks ≡ packages g
  pub shape : HasRows g rows
  pub filled : MatchBool open_ (IsFilled g closed) (HasEmpty g (under g []))
