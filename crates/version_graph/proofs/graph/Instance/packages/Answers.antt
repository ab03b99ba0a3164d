use Rattle.std.proofs.Common.{subst}
use Rattle.version_graph.specs.Graph.{IsGraph}
use Rattle.version_graph.proofs.GraphLemmas.{graph-from}
use Rattle.version_graph.proofs.graph.Instance.packages.Goals as goal

pub returns-clause-sound : goal.returns-clause-sound
returns-clause-sound c = subst IsGraph c.self.view_is (graph-from _ _ c.self.invariant.kept)
