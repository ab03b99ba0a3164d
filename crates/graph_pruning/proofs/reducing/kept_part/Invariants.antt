use Rattle.version_graph.specs.Domain.{has}
use Rattle.graph_pruning.specs.Marked.{marked, standing_in}
use Rattle.graph_pruning.specs.Parting.{IsPartBelow}
use Rattle.graph_pruning.proofs.reducing.kept_part.Given as goal

abbrev pub invariant-loop-p : goal.invariant-loop-p
invariant-loop-p l = IsPartBelow (has l.domains) (marked l.kept) (standing_in l.classes) l.p l.part
