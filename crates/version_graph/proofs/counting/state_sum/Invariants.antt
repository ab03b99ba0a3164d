use Rattle.std.proofs.Common.{◌≡◌, ◌≤◌, ◌*◌, ◌^◌, take}
use Rattle.std.specs.List.{sum}
use Rattle.version_graph.proofs.counting.state_sum.Given as goal

abbrev pub invariant-loop-count : goal.invariant-loop-count
invariant-loop-count l = record { is : l.total ≡ sum (take l.count-index l.states); few : l.total ≤ l.count-index * 2 ^ 32 }
