use Rattle.std.proofs.Common.{◌≡◌, ◌<◌, ℕ, [], length, get_or}
use Rattle.version_graph.specs.Domain.{has}
use Rattle.version_graph.specs.Stored.{rows_of}
use Rattle.graph_pruning.specs.Classing.{AreClassesOf}
use Rattle.graph_pruning.proofs.equality.classes.Given as goal

abbrev pub invariant-loop-p : goal.invariant-loop-p
invariant-loop-p l = record {
  each : length l.rows.items ≡ l.p;
  at : (q : ℕ) → q < l.p → AreClassesOf l.instance (has l.domains) q (get_or (rows_of l.rows.items) q []);
}
