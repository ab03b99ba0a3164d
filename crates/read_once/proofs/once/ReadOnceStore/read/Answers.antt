use Rattle.read_once.proofs.Truth.{repeated_is_true}
use Rattle.read_once.proofs.once.ReadOnceStore.read.Goals as goal

pub returns-in-Some-clause-answer : goal.returns-in-Some-clause-answer
returns-in-Some-clause-answer g c = repeated_is_true _ c.args.self.now.seen _ _ c.answer.ensures.plain c.args.self.now.true_so_far c.in-Some.ensures.found
