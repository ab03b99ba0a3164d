use Rattle.std.proofs.Common.{ℕ, ◌≡◌, ◌<◌, get_or, length, []}
use Rattle.version_graph.specs.Graph.{packages, are_neighbours, IsListOf}
use Rattle.version_graph.specs.Stored.{rows_of}
use Rattle.maxsum_messages.specs.Kept.{AreSenders}
use Rattle.maxsum_messages.proofs.building.senders_of.Given as goal

abbrev pub invariant-loop-p : goal.invariant-loop-p
invariant-loop-p l = record {
  each : length l.rows.items ≡ l.p;
  senders : (q : ℕ) → q < l.p → AreSenders (packages l.instance) q (get_or (rows_of l.rows.items) q []);
  listed : (q : ℕ) → q < l.p → IsListOf (are_neighbours l.instance q) (get_or (rows_of l.rows.items) q []);
}
