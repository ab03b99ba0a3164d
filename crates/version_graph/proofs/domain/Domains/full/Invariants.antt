use Rattle.std.proofs.Common.{◌≡◌, ℕ, ◌<◌, ◌≤◌, length, get_or, false, []}
use Rattle.version_graph.specs.Graph.{states, is_offered}
use Rattle.version_graph.specs.Domain.{count_true}
use Rattle.version_graph.proofs.domain.Domains.full.Given as goal

abbrev pub invariant-loop-p : goal.invariant-loop-p
invariant-loop-p l = record {
  each : length l.rows.items ≡ l.p;
  wide : (q : ℕ) → q < l.p → length (get_or l.rows.items q []) ≡ states l.instance q;
  few : (q : ℕ) → q < l.p → length (get_or l.rows.items q []) ≤ 65536;
  offered : (q i : ℕ) → q < l.p → get_or (get_or l.rows.items q []) i false ≡ is_offered l.instance q i;
  counts : length l.sizes.items ≡ l.p;
  count : (q : ℕ) → q < l.p → get_or l.sizes.items q 0 ≡ count_true (get_or l.rows.items q []);
}
