use Rattle.version_graph.specs.Domain.{has}
use Rattle.graph_pruning.specs.Reaching.{IsReaching, Grows, AreNeedsMarked}
use Rattle.graph_pruning.proofs.reaching.Reached.spread.Given as goal

abbrev pub invariant-loop-next : goal.invariant-loop-next
invariant-loop-next l = record {
  grows : Grows l.initial.self l.self;
  reaching : IsReaching l.instance (has l.domains) l.self;
  done : AreNeedsMarked l.instance (has l.domains) l.self l.next;
}
