use Rattle.std.proofs.Common.{◌≡◌, ◌<◌, ℕ, length, get_or, [], false, replicate}
use Rattle.version_graph.specs.Stored.{rows_of}
use Rattle.version_graph.proofs.counting.open_rows.Given as goal

abbrev pub invariant-loop-count : goal.invariant-loop-count
invariant-loop-count l = record {
  each : length l.rows.items ≡ l.count-index;
  rows : (p : ℕ) → p < l.count-index → get_or (rows_of l.rows.items) p [] ≡ replicate (get_or l.states p 0) false;
}
