-- What is true of finishing.
use Rattle.std.specs.Prelude.{◌≡◌, ℕ, List, length}
use Rattle.version_graph.specs.Graph.{Graph, packages, IsGraph, IsPlain, IsSolution}
use Rattle.raise_pass.specs.Finishing.{Finishes}

-- finishing has one result
abbrev pub OneFinish : Type 0
OneFinish = (g : Graph) (old one other : List ℕ) → length old ≡ packages g → Finishes g old one → Finishes g old other → one ≡ other

-- a finished solution is a solution
abbrev pub FinishKeepsSolution : Type 0
FinishKeepsSolution = (g : Graph) (old new : List ℕ) → IsGraph g → IsPlain g → IsSolution g old → Finishes g old new → IsSolution g new
