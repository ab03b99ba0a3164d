use Rattle.version_graph.specs.Needed.{AddsNeeds}
use Rattle.version_graph.proofs.needs.add_needs.Given as goal

abbrev pub invariant-loop-i : goal.invariant-loop-i
invariant-loop-i l = AddsNeeds l.instance l.p l.i l.initial.rows l.rows
