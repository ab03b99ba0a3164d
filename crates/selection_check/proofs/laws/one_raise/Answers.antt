use Rattle.selection_check.proofs.RaiseLemmas.{one_raise}
use Rattle.selection_check.proofs.laws.one_raise.Goals as goal

pub returns : goal.returns
returns c = one_raise
