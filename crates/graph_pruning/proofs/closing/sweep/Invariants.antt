use Rattle.std.proofs.Common.{length}
use Rattle.version_graph.specs.Domain.{has}
use Rattle.version_graph.specs.Noted.{Holds}
use Rattle.graph_pruning.specs.Spread.{Shrinks, Extends, AreClear}
use Rattle.graph_pruning.proofs.closing.sweep.Given as goal

abbrev pub invariant-loop-q : goal.invariant-loop-q
invariant-loop-q l = record {
  keeps : Holds l.instance l.domains l.trail;
  extends : Extends l.initial.trail l.trail;
  shrinks : Shrinks l.instance (has l.initial.domains) (has l.domains);
  clear : AreClear l.instance (has l.domains) l.trail.notes (length l.initial.trail.notes) l.q;
}
