use Rattle.check_command.proofs.LawLemmas.{refuted_none}
use Rattle.check_command.proofs.laws.refuted_is_none.Goals as goal

pub returns : goal.returns
returns c = refuted_none
