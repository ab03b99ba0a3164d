use Rattle.edit_commands.proofs.LawLemmas.{none_none}
use Rattle.edit_commands.proofs.laws.none_is_none.Goals as goal

pub returns : goal.returns
returns c = none_none
