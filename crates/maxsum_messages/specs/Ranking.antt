-- States in the order in which they are tried.
use Rattle.std.specs.Prelude.{ℕ, ◌<◌, ◌≤◌, List}
use Rattle.version_graph.specs.Graph.{Graph, packages, states}

pub record Ranking : Type 0 where
  -- the first one first
  pub states : List ℕ
  -- how many there is room for
  pub room : ℕ

-- there is room for the states of any package
pub record IsOrderFor (g : Graph) (order : Ranking) : Type 0 where
  pub room : (p : ℕ) → p < packages g → states g p ≤ order.room
