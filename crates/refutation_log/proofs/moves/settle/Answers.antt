use Rattle.refutation_log.proofs.Holding.{closed_when_stable, empty_when_emptied}
use Rattle.refutation_log.proofs.moves.settle.Goals as goal

pub returns-in-Stable-clause-settled : goal.returns-in-Stable-clause-settled
returns-in-Stable-clause-settled c = closed_when_stable _ _ _ c.close.ensures.between c.in-Stable.ensures.answer

pub returns-in-Empty-clause-settled : goal.returns-in-Empty-clause-settled
returns-in-Empty-clause-settled c = empty_when_emptied _ _ _ c.close.ensures.between c.in-Empty.ensures.answer.empty
