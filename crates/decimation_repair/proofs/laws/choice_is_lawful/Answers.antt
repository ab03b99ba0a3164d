use Rattle.decimation_repair.proofs.ChoiceLemmas.{belief-lawful}
use Rattle.decimation_repair.proofs.laws.choice_is_lawful.Goals as goal

pub returns : goal.returns
returns c = belief-lawful
