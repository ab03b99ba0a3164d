use Rattle.version_graph.proofs.TrailLemmas.{held_offered}
use Rattle.version_graph.proofs.laws.held_is_offered.Goals as goal

pub returns : goal.returns
returns c = held_offered
