use Rattle.instance_search.proofs.OneLemmas.{one_answer}
use Rattle.instance_search.proofs.laws.answer_is_one.Goals as goal

pub returns : goal.returns
returns c = one_answer c.walk_is_one.ensures c.one_pruning.ensures c.one_finish.ensures
