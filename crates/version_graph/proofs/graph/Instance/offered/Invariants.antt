use Rattle.std.proofs.Common.{◌≡◌, ◌<◌, ◌≤◌, ℕ, false, length, get_or}
use Rattle.version_graph.specs.Graph.{states, is_offered}
use Rattle.version_graph.proofs.graph.Instance.offered.Given as goal

abbrev pub invariant-loop-i : goal.invariant-loop-i
invariant-loop-i l = record {
  long : length l.row ≡ states l.self l.p;
  at : (k : ℕ) → k < l.i → get_or l.row k false ≡ is_offered l.self l.p k;
  rest : (k : ℕ) → l.i ≤ k → get_or l.row k false ≡ false;
}
