use Rattle.std.proofs.Common.{◌≡◌, ◌<◌, ℕ, true}
use Rattle.version_graph.specs.Graph.{is_forbidden}
use Rattle.version_graph.specs.Copied.{is_forbidden_at, Copies}
use Rattle.version_graph.proofs.graph.Instance.copy_row.Given as goal

abbrev pub invariant-loop-j : goal.invariant-loop-j
invariant-loop-j l = record {
  copies : Copies l.self l.part l.initial.builder l.builder;
  here : (k : ℕ) → k < l.j → is_forbidden_at l.self l.part l.p l.i l.q k ≡ true → is_forbidden l.builder l.p l.i l.q k ≡ true;
}
