use Rattle.std.proofs.Common.{◌≡◌, ◌<◌, ℕ, false, not, length, slice_index_or}
use Rattle.graph_pruning.specs.Marked.{marked}
use Rattle.refutation_log.proofs.scratch.shut_packages.Given as goal

abbrev pub invariant-loop-p : goal.invariant-loop-p
invariant-loop-p l = record {
  each : length l.shut.items ≡ l.p;
  at : (q : ℕ) → q < l.p → slice_index_or l.shut.items q false ≡ not (marked l.kept q);
}
