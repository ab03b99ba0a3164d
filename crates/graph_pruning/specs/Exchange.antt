-- How a solution may be changed: what isn't kept may be absent, and a state may be exchanged for an equal one. (own rule)
use Rattle.std.specs.Prelude.{◌≡◌, ℕ, ◌<◌, true, false, List, slice_index, slice_set}
use Rattle.version_graph.specs.Graph.{Graph, packages, last, IsGraph, IsPlain, IsSolution}
use Rattle.graph_pruning.specs.Pruned.{Pruning, IsPruningOf}

-- each package that isn't kept has its absent state
pub record AreAbsent (g : Graph) (pr : Pruning) (xs : List ℕ) : Type 0 where
  pub absent : (p : ℕ) → p < packages g → pr.kept p ≡ false → slice_index xs p ≡ last g p

pub record SolvesWithAbsent (g : Graph) (pr : Pruning) (xs : List ℕ) : Type 0 where
  pub solves : IsSolution g xs
  pub absent : AreAbsent g pr xs

-- ---- laws

-- where there is a solution, there is one in which what isn't kept is absent
abbrev pub UnkeptCanBeAbsent : Type 0
UnkeptCanBeAbsent = (g : Graph) (pr : Pruning) → IsGraph g → IsPlain g → IsPruningOf g pr → (xs : List ℕ) → IsSolution g xs → (ys : List ℕ) × SolvesWithAbsent g pr ys

-- such a solution stays one where a kept package's state is exchanged for one that is equal to it
abbrev pub EqualStatesExchange : Type 0
EqualStatesExchange = (g : Graph) (pr : Pruning) → IsPruningOf g pr → (xs : List ℕ) → IsSolution g xs → AreAbsent g pr xs → (p i : ℕ) → p < packages g → pr.kept p ≡ true →
    pr.standing p i ≡ pr.standing p (slice_index xs p) → SolvesWithAbsent g pr (slice_set xs p i)
