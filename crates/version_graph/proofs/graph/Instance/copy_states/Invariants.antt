use Rattle.std.proofs.Common.{◌≡◌, ◌<◌, ℕ, true}
use Rattle.version_graph.specs.Graph.{is_barred}
use Rattle.version_graph.specs.Copied.{is_barred_at, Copies}
use Rattle.version_graph.proofs.graph.Instance.copy_states.Given as goal

abbrev pub invariant-loop-i : goal.invariant-loop-i
invariant-loop-i l = record {
  copies : Copies l.self l.part l.initial.builder l.builder;
  here : (k : ℕ) → k < l.i → is_barred_at l.self l.part l.p k ≡ true → is_barred l.builder l.p k ≡ true;
}
