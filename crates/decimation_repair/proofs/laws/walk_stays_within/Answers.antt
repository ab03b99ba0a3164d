use Rattle.decimation_repair.proofs.BoundLemmas.{beliefs-stay}
use Rattle.decimation_repair.proofs.laws.walk_stays_within.Goals as goal

pub returns : goal.returns
returns c = beliefs-stay
