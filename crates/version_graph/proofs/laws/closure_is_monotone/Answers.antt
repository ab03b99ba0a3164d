use Rattle.version_graph.proofs.FamilyLemmas.{below_within}
use Rattle.version_graph.proofs.laws.closure_is_monotone.Goals as goal

pub returns : goal.returns
returns c = below_within
