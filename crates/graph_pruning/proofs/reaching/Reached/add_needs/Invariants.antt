use Rattle.std.proofs.Common.{◌≡◌, ◌<◌, ℕ, true}
use Rattle.version_graph.specs.Graph.{does_need}
use Rattle.version_graph.specs.Domain.{has}
use Rattle.graph_pruning.specs.Marked.{marked}
use Rattle.graph_pruning.specs.Reaching.{IsReaching, Grows}
use Rattle.graph_pruning.proofs.reaching.Reached.add_needs.Given as goal

abbrev pub invariant-loop-i : goal.invariant-loop-i
invariant-loop-i l = record {
  grows : Grows l.initial.self l.self;
  reaching : IsReaching l.instance (has l.domains) l.self;
  done : (i q : ℕ) → i < l.i → has l.domains l.p i ≡ true → does_need l.instance l.p i q ≡ true → marked l.self.marks.items q ≡ true;
}
