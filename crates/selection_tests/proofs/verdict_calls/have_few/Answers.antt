use Rattle.std.proofs.Common.{arith}
use Rattle.selection_tests.proofs.Few.{all_few}
use Rattle.selection_tests.proofs.verdict_calls.have_few.Goals as goal

pub returns : goal.returns
returns c = λ _. all_few c.args.book.now (λ p below. c.loop-package.invariant p (omega (arith, below, c.loop-package-test.false, c.packages-package-end.ensures.count)))
