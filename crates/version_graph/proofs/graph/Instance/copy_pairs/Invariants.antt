use Rattle.std.proofs.Common.{◌≡◌, ◌<◌, ℕ, true, length, get_or}
use Rattle.version_graph.specs.Graph.{is_forbidden}
use Rattle.version_graph.specs.Part.{package_of, states_of}
use Rattle.version_graph.specs.Copied.{is_forbidden_at, Copies}
use Rattle.version_graph.proofs.graph.Instance.copy_pairs.Given as goal

abbrev pub invariant-loop-q : goal.invariant-loop-q
invariant-loop-q l = record {
  copies : Copies l.self l.part l.initial.builder l.builder;
  here : (n k i j : ℕ) → n < l.q-index → k < l.p → package_of l.part k ≡ get_or l.near n 0 → i < length (states_of l.part l.p) → j < length (states_of l.part k) →
      is_forbidden_at l.self l.part l.p i k j ≡ true → is_forbidden l.builder l.p i k j ≡ true;
}
