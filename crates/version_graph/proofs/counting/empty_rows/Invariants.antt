use Rattle.std.proofs.Common.{◌≡◌, ◌<◌, ℕ, length, get_or, []}
use Rattle.version_graph.specs.Stored.{rows_of}
use Rattle.version_graph.proofs.counting.empty_rows.Given as goal

abbrev pub invariant-loop-p : goal.invariant-loop-p
invariant-loop-p l = record {
  each : length l.rows.items ≡ l._p;
  empty : (p : ℕ) → p < l._p → get_or (rows_of l.rows.items) p [] ≡ [];
}
