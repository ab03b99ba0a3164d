use Rattle.std.proofs.Common.{◌≡◌, ◌<◌, ◌≤◌, ℕ, length, get_or}
use Rattle.version_graph.specs.Graph.{states}
use Rattle.decimation_repair.specs.Ordered.{rooms_of}
use Rattle.decimation_repair.proofs.orders.Orders.make.Given as goal

abbrev pub invariant-loop-p : goal.invariant-loop-p
invariant-loop-p l = record {
  each : length l.rows.items ≡ l.p;
  room : (q : ℕ) → q < l.p → states l.instance q ≤ get_or (rooms_of l.rows.items) q 0;
}
