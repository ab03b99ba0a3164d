use Rattle.edit_commands.proofs.LawLemmas.{ample}
use Rattle.edit_commands.proofs.laws.ample_budget_suffices.Goals as goal

pub returns : goal.returns
returns c = ample
