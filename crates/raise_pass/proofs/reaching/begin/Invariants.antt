use Rattle.std.proofs.Common.{◌≡◌, ◌<◌, ℕ, false, length}
use Rattle.version_graph.specs.Graph.{packages}
use Rattle.raise_pass.specs.Reached.{is_marked}
use Rattle.raise_pass.proofs.reaching.begin.Given as goal

abbrev pub invariant-loop-p : goal.invariant-loop-p
invariant-loop-p l = record {
  each : length l.reached.items ≡ packages l.instance;
  none : (q : ℕ) → q < l.p → is_marked l.reached.items q ≡ false;
}
