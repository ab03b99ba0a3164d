use Rattle.instance_search.proofs.AnswerLemmas.{found_finished}
use Rattle.instance_search.proofs.laws.found_is_finished.Goals as goal

pub returns : goal.returns
returns c = found_finished c.found_is_solution.ensures c.pruning_keeps_solutions.ensures c.finish_keeps_solution.ensures
