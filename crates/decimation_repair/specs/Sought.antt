-- What a search is seen as.
use Rattle.std.specs.Prelude.{ℕ, List}
use Rattle.version_graph.specs.Graph.{Graph}
use Rattle.decimation_repair.specs.Levels.{Levels}

pub record Sought : Type 0 where
  pub instance : Graph
  -- the weight that each state has by itself
  pub fields : List (List Levels)
  -- how many nodes may be logged
  pub budget : ℕ
