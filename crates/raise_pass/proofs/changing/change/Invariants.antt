use Rattle.std.proofs.Common.{◌≡◌, ◌<◌, ℕ, true, false, length, get_or}
use Rattle.version_graph.specs.Graph.{packages}
use Rattle.raise_pass.specs.Reached.{is_marked, IsUnmarkedBelow}
use Rattle.raise_pass.proofs.changing.change.Given as goal

abbrev pub invariant-loop-q : goal.invariant-loop-q
invariant-loop-q l = record {
  each : length l.loose.marks.items ≡ packages l.instance;
  below : IsUnmarkedBelow l.loose.first l.loose.marks.items;
  less : (q : ℕ) → is_marked l.loose.marks.items q ≡ false → is_marked l.initial.loose.marks.items q ≡ false;
  here : is_marked l.loose.marks.items l.p ≡ true;
  met : (k : ℕ) → k < l.q-index → is_marked l.loose.marks.items (get_or l.neighbours k 0) ≡ true;
}
