use Rattle.graph_pruning.proofs.ReduceLemmas.{closures_correspond}
use Rattle.graph_pruning.proofs.laws.pruning_keeps_closures.Goals as goal

pub returns : goal.returns
returns c = λ g pr h b r prefix known. closures_correspond g pr h b r c.empty_is_everywhere.ensures prefix known
