use Rattle.version_graph.proofs.FamilyLemmas.{chosen_closed}
use Rattle.version_graph.proofs.laws.solution_is_closed.Goals as goal

pub returns : goal.returns
returns c = chosen_closed
