use Rattle.selection_check.proofs.VerdictLaws.{valid_breaks_none}
use Rattle.selection_check.proofs.laws.valid_breaks_none.Goals as goal

pub returns : goal.returns
returns c = valid_breaks_none
