use Rattle.std.proofs.Common.{◌≡◌, ◌<◌, ℕ, true, get_or}
use Rattle.version_graph.specs.Family.{Meets}
use Rattle.version_graph.specs.Domain.{has}
use Rattle.version_graph.specs.Noted.{Holds}
use Rattle.graph_pruning.specs.Spread.{Shrinks, Extends}
use Rattle.graph_pruning.proofs.closing.clear.Given as goal

abbrev pub invariant-loop-p : goal.invariant-loop-p
invariant-loop-p l = record {
  keeps : Holds l.instance l.domains l.trail;
  extends : Extends l.initial.trail l.trail;
  shrinks : Shrinks l.instance (has l.initial.domains) (has l.domains);
  same : (j : ℕ) → has l.domains l.q j ≡ has l.initial.domains l.q j;
  met : (k : ℕ) → k < l.p-index → (i : ℕ) → has l.domains (get_or l.neighbours k 0) i ≡ true → Meets l.instance (has l.domains) (get_or l.neighbours k 0) i l.q;
}
