use Rattle.std.proofs.Common.{◌≡◌, ◌<◌, ℕ, false, get_or}
use Rattle.version_graph.specs.Graph.{is_forbidden}
use Rattle.raise_pass.proofs.raising.can_raise.Given as goal

abbrev pub invariant-loop-q : goal.invariant-loop-q
invariant-loop-q l = record {
  met : (k : ℕ) → k < l.q-index → is_forbidden l.instance l.p l.j (get_or l.neighbours k 0) (get_or l.chosen (get_or l.neighbours k 0) 0) ≡ false;
}
