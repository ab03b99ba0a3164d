use Rattle.raise_pass.proofs.FinishLemmas.{finish-solves}
use Rattle.raise_pass.proofs.laws.finish_keeps_solution.Goals as goal

pub returns : goal.returns
returns c = finish-solves
