use Rattle.std.proofs.Common.{◌≡◌, ◌<◌, ℕ, length, get_or}
use Rattle.version_graph.specs.Graph.{last}
use Rattle.graph_pruning.proofs.widening.absent_states.Given as goal

abbrev pub invariant-loop-p : goal.invariant-loop-p
invariant-loop-p l = record {
  each : length l.states.items ≡ l.p;
  last : (q : ℕ) → q < l.p → get_or l.states.items q 0 ≡ last l.instance q;
}
