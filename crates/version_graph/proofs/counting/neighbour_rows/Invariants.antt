use Rattle.std.proofs.Common.{take}
use Rattle.version_graph.specs.Stored.{rows_of, AreLinked}
use Rattle.version_graph.proofs.counting.neighbour_rows.Given as goal

abbrev pub invariant-loop-pair : goal.invariant-loop-pair
invariant-loop-pair l = AreLinked l.count (take l.pair-index l.pairs) (rows_of l.rows.items)
