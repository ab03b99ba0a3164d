use Rattle.raise_pass.proofs.FinishLemmas.{one-finish}
use Rattle.raise_pass.proofs.laws.one_finish.Goals as goal

pub returns : goal.returns
returns c = one-finish
