-- a digit more, or none
use Rattle.std.proofs.Common.{arith, sym, ◌∙◌}
use Rattle.log_text.proofs.Numbers.{value_goes, value_ends, value_done}
use Rattle.log_text.proofs.words.value_of.Goals as goal

pub returns-in-None : goal.returns-in-None
returns-in-None c = sym (c.loop-digit.invariant ∙ value_ends c.loop-digit.value c.args.digits.now c.loop-digit.digit-index (omega arith) c.in-None.ensures)

pub loop-digit-preserved : goal.loop-digit-preserved
loop-digit-preserved c = c.loop-digit.invariant ∙ value_goes c.loop-digit.value c.in-Some.next c.args.digits.now c.loop-digit.digit-index (omega arith) c.in-Some.ensures

pub returns : goal.returns
returns c = sym (c.loop-digit.invariant ∙ value_done c.loop-digit.value c.args.digits.now c.loop-digit.digit-index (omega arith))
