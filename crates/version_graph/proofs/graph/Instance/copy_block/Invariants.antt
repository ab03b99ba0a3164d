use Rattle.std.proofs.Common.{◌≡◌, ◌<◌, ℕ, true, length}
use Rattle.version_graph.specs.Graph.{is_forbidden}
use Rattle.version_graph.specs.Part.{states_of}
use Rattle.version_graph.specs.Copied.{is_forbidden_at, Copies}
use Rattle.version_graph.proofs.graph.Instance.copy_block.Given as goal

abbrev pub invariant-loop-i : goal.invariant-loop-i
invariant-loop-i l = record {
  copies : Copies l.self l.part l.initial.builder l.builder;
  here : (k j : ℕ) → k < l.i → j < length (states_of l.part l.q) → is_forbidden_at l.self l.part l.p k l.q j ≡ true → is_forbidden l.builder l.p k l.q j ≡ true;
}
