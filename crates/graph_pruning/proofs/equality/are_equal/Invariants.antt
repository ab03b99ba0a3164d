use Rattle.std.proofs.Common.{◌<◌, ℕ, get_or}
use Rattle.version_graph.specs.Family.{AreAlike}
use Rattle.version_graph.specs.Domain.{has}
use Rattle.graph_pruning.proofs.equality.are_equal.Given as goal

abbrev pub invariant-loop-q : goal.invariant-loop-q
invariant-loop-q l = (n : ℕ) → n < l.q-index → AreAlike l.instance (has l.domains) l.p l.i l.j (get_or l.neighbours n 0)
