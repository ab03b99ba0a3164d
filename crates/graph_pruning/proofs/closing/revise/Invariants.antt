use Rattle.std.proofs.Common.{◌≡◌, ◌≢◌, ◌<◌, ℕ, true}
use Rattle.version_graph.specs.Family.{Meets}
use Rattle.version_graph.specs.Domain.{has}
use Rattle.version_graph.specs.Noted.{Holds}
use Rattle.graph_pruning.specs.Spread.{Shrinks, Extends}
use Rattle.graph_pruning.proofs.closing.revise.Given as goal

abbrev pub invariant-loop-i : goal.invariant-loop-i
invariant-loop-i l = record {
  keeps : Holds l.instance l.domains l.trail;
  extends : Extends l.initial.trail l.trail;
  shrinks : Shrinks l.instance (has l.initial.domains) (has l.domains);
  others : (r j : ℕ) → r ≢ l.p → has l.domains r j ≡ has l.initial.domains r j;
  supported : (k : ℕ) → k < l.i → has l.domains l.p k ≡ true → Meets l.instance (has l.domains) l.p k l.q;
}
