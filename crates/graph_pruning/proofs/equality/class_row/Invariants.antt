use Rattle.std.proofs.Common.{◌≤◌}
use Rattle.version_graph.specs.Graph.{states}
use Rattle.version_graph.specs.Domain.{has}
use Rattle.graph_pruning.specs.Classing.{IsClassing}
use Rattle.graph_pruning.proofs.equality.class_row.Given as goal

abbrev pub invariant-loop-left : goal.invariant-loop-left
invariant-loop-left l = record {
  below : l.left ≤ states l.instance l.p;
  classing : IsClassing l.instance (has l.domains) l.p l.left l.row;
}

abbrev pub decreases-loop-left : goal.decreases-loop-left
decreases-loop-left l = l.left
