use Rattle.version_graph.specs.Graph.{packages}
use Rattle.version_graph.specs.Domain.{has}
use Rattle.version_graph.specs.Noted.{Holds}
use Rattle.graph_pruning.specs.Spread.{Shrinks, Extends, AreClear}
use Rattle.graph_pruning.proofs.closing.spread.Given as goal

abbrev pub invariant-loop-next : goal.invariant-loop-next
invariant-loop-next l = record {
  keeps : Holds l.instance l.domains l.trail;
  extends : Extends l.initial.trail l.trail;
  shrinks : Shrinks l.instance (has l.initial.domains) (has l.domains);
  clear : AreClear l.instance (has l.domains) l.trail.notes l.next (packages l.instance);
}
