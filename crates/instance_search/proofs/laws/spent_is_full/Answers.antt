use Rattle.instance_search.proofs.AnswerLemmas.{spent_full}
use Rattle.instance_search.proofs.laws.spent_is_full.Goals as goal

pub returns : goal.returns
returns c = spent_full
