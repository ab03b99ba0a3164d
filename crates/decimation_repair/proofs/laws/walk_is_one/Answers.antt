use Rattle.decimation_repair.specs.Choice.{BeliefChoice}
use Rattle.decimation_repair.proofs.ChoiceLemmas.{belief-lawful}
use Rattle.decimation_repair.proofs.WalkLemmas.{one-walk}
use Rattle.decimation_repair.proofs.laws.walk_is_one.Goals as goal

pub returns : goal.returns
returns c = λ f. one-walk (BeliefChoice f) (belief-lawful f)
