use Rattle.graph_pruning.proofs.PruneLemmas.{one_pruning}
use Rattle.graph_pruning.proofs.laws.one_pruning.Goals as goal

pub returns : goal.returns
returns c = λ g a b x y. one_pruning g a b x y
