use Rattle.std.proofs.Common.{◌≡◌, ◌<◌, ℕ, true, length}
use Rattle.version_graph.specs.Graph.{packages}
use Rattle.raise_pass.specs.Reached.{is_marked}
use Rattle.raise_pass.proofs.raising.loosen.Given as goal

abbrev pub invariant-loop-p : goal.invariant-loop-p
invariant-loop-p l = record {
  each : length l.loose.marks.items ≡ packages l.instance;
  start : l.loose.first ≡ 0;
  all : (q : ℕ) → q < l.p → is_marked l.loose.marks.items q ≡ true;
}
