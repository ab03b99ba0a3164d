use Rattle.std.proofs.Common.{◌≡◌, ◌<◌, ℕ, false, length}
use Rattle.version_graph.specs.Graph.{packages}
use Rattle.raise_pass.specs.Reached.{is_marked}
use Rattle.raise_pass.specs.Scratch.{AreStuck}
use Rattle.raise_pass.proofs.raising.next_raise.Given as goal

abbrev pub invariant-loop-p : goal.invariant-loop-p
invariant-loop-p l = record {
  each : length l.loose.marks.items ≡ packages l.instance;
  stuck : AreStuck l.instance l.chosen l.loose.marks.items;
  done : (q : ℕ) → q < l.p → is_marked l.loose.marks.items q ≡ false;
}
