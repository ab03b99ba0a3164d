use Rattle.version_graph.proofs.FamilyLemmas.{nowhere}
use Rattle.version_graph.proofs.laws.empty_is_everywhere.Goals as goal

pub returns : goal.returns
returns c = nowhere
