use Rattle.version_graph.proofs.FamilyLemmas.{closure-largest}
use Rattle.version_graph.proofs.laws.closure_is_largest.Goals as goal

pub returns : goal.returns
returns c = closure-largest
