use Rattle.std.proofs.Common.{◌≡◌, ◌<◌, ℕ, length, get_or}
use Rattle.version_graph.specs.Part.{states_of}
use Rattle.version_graph.proofs.graph.Instance.sizes_of.Given as goal

abbrev pub invariant-loop-p : goal.invariant-loop-p
invariant-loop-p l = record {
  each : length l.sizes.items ≡ l.p;
  at : (k : ℕ) → k < l.p → get_or l.sizes.items k 0 ≡ length (states_of l.part k);
}
