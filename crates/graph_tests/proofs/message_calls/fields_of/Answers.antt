use Rattle.std.proofs.Common.{◌∙◌, arith}
use Rattle.graph_tests.proofs.message_calls.fields_of.Goals as goal

pub set-requires-clause-known : goal.set-requires-clause-known
set-requires-clause-known c = omega (arith, c.loop-i.invariant.each)

pub set-requires-clause-state : goal.set-requires-clause-state
set-requires-clause-state c = omega (arith, c.loop-i.invariant.wide c.loop-p.p (omega arith))

pub loop-i-preserved : goal.loop-i-preserved
loop-i-preserved c = record {
  each = c.set.ensures.each ∙ c.loop-i.invariant.each;
  wide = λ q h. c.set.ensures.wide q ∙ c.loop-i.invariant.wide q h;
}
