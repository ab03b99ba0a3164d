use Rattle.std.proofs.Common.{◌<◌, ◌≤◌, ℕ}
use Rattle.version_graph.specs.Domain.{size_of}
use Rattle.decimation_repair.proofs.deciding.is_decided.Given as goal

abbrev pub invariant-loop-p : goal.invariant-loop-p
invariant-loop-p l = record {
  narrow : (q : ℕ) → q < l.p → size_of l.domains q ≤ 1;
}
