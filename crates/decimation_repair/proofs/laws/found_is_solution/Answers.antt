use Rattle.decimation_repair.proofs.WalkLemmas.{found-solves}
use Rattle.decimation_repair.proofs.laws.found_is_solution.Goals as goal

pub returns : goal.returns
returns c = found-solves
