use Rattle.version_graph.proofs.SumLemmas.{SumsTo}
use Rattle.version_graph.proofs.building.InstanceBuilder.sums_of.Given as goal

abbrev pub invariant-loop-q : goal.invariant-loop-q
invariant-loop-q l = SumsTo l.self l.p l.row l.q-index l.bits l.cells
