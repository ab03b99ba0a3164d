use Rattle.version_graph.proofs.TrailLemmas.{offered_known}
use Rattle.version_graph.proofs.laws.offered_is_known.Goals as goal

pub returns : goal.returns
returns c = offered_known
