use Rattle.version_graph.proofs.FamilyLemmas.{closes_alike}
use Rattle.version_graph.proofs.laws.between_closes_alike.Goals as goal

pub returns : goal.returns
returns c = closes_alike
