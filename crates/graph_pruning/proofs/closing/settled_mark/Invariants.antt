use Rattle.std.proofs.Common.{◌≡◌, ◌≤◌, ℕ, false, length}
use Rattle.version_graph.specs.Noted.{is_settled_at}
use Rattle.graph_pruning.proofs.closing.settled_mark.Given as goal

abbrev pub invariant-loop-mark : goal.invariant-loop-mark
invariant-loop-mark l = record {
  above : (k : ℕ) → l.mark ≤ k → k ≤ length l.trail.notes → is_settled_at l.trail k ≡ false;
}
