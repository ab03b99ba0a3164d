use Rattle.edit_commands.proofs.LawLemmas.{ending_best}
use Rattle.edit_commands.proofs.laws.ending_is_best.Goals as goal

pub returns : goal.returns
returns c = ending_best c.logs_are_printable.ensures
