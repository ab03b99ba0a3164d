use Rattle.check_command.proofs.LawLemmas.{certified_refuted}
use Rattle.check_command.proofs.laws.certificate_is_refuted.Goals as goal

pub returns : goal.returns
returns c = certified_refuted c.sums_are_one.ensures c.text_of_one.ensures
