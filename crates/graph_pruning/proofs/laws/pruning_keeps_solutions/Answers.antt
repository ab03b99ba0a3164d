use Rattle.graph_pruning.proofs.ReduceLemmas.{solutions_correspond}
use Rattle.graph_pruning.proofs.laws.pruning_keeps_solutions.Goals as goal

pub returns : goal.returns
returns c = λ g pr h b r. solutions_correspond g pr h b r c.solution_is_closed.ensures
