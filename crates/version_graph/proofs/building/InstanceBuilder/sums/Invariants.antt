use Rattle.std.proofs.Common.{◌≡◌, ◌≤◌, ◌*◌, ◌+◌, ◌^◌}
use Rattle.version_graph.specs.Graph.{share, sum_below}
use Rattle.version_graph.proofs.building.InstanceBuilder.sums.Given as goal

abbrev pub invariant-loop-p : goal.invariant-loop-p
invariant-loop-p l = record {
  bits : l.bits ≡ sum_below (λ p. sum_below (share l.self (λ a b. a * b) p) p) l.p;
  cells : l.cells ≡ sum_below (λ p. sum_below (share l.self (λ a b. a + b) p) p) l.p;
  few_bits : l.bits ≤ l.p * 2 ^ 44;
  few_cells : l.cells ≤ l.p * 2 ^ 44;
}
