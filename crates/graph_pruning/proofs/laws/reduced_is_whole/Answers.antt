use Rattle.graph_pruning.proofs.ReduceLemmas.{reduced_whole}
use Rattle.graph_pruning.proofs.laws.reduced_is_whole.Goals as goal

pub returns : goal.returns
returns c = λ g pr h b r. reduced_whole g pr h b r
