use Rattle.decimation_repair.specs.Choice.{BeliefChoice}
use Rattle.decimation_repair.proofs.ChoiceLemmas.{belief-lawful}
use Rattle.decimation_repair.proofs.EndLemmas.{end-leaves-none}
use Rattle.decimation_repair.proofs.laws.end_leaves_none.Goals as goal

pub returns : goal.returns
returns c = λ f. end-leaves-none (BeliefChoice f) (belief-lawful f)
