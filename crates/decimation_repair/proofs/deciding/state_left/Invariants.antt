use Rattle.std.proofs.Common.{◌≡◌, ◌<◌, ℕ, false}
use Rattle.version_graph.specs.Domain.{has}
use Rattle.decimation_repair.proofs.deciding.state_left.Given as goal

abbrev pub invariant-loop-state : goal.invariant-loop-state
invariant-loop-state l = record {
  below : (i : ℕ) → i < l.state → has l.domains l.p i ≡ false;
}
