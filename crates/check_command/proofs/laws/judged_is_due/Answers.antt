-- by the laws of the book
use Rattle.check_command.proofs.DueLemmas.{due}
use Rattle.check_command.proofs.laws.judged_is_due.Goals as goal

pub returns : goal.returns
returns c = due c.valid_alike.ensures c.raised_alike.ensures c.feasible_alike.ensures.cut
