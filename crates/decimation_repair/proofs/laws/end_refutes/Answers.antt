use Rattle.decimation_repair.specs.Choice.{BeliefChoice}
use Rattle.decimation_repair.proofs.ChoiceLemmas.{belief-lawful}
use Rattle.decimation_repair.proofs.EndLemmas.{end-refutes}
use Rattle.decimation_repair.proofs.laws.end_refutes.Goals as goal

pub returns : goal.returns
returns c = λ f. end-refutes (BeliefChoice f) (belief-lawful f)
