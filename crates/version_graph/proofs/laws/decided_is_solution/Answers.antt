use Rattle.version_graph.proofs.FamilyLemmas.{decided_solves}
use Rattle.version_graph.proofs.laws.decided_is_solution.Goals as goal

pub returns : goal.returns
returns c = decided_solves
