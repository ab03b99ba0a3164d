use Rattle.std.proofs.Common.{◌<◌, ℕ, get_or}
use Rattle.version_graph.specs.Domain.{has}
use Rattle.graph_pruning.specs.Pruned.{SameIn}
use Rattle.graph_pruning.proofs.equality.equal_one.Given as goal

abbrev pub invariant-loop-j : goal.invariant-loop-j
invariant-loop-j l = (k : ℕ) → k < l.j-index → SameIn l.instance (has l.domains) l.p l.i (get_or l.others k 0) → ⊥
