use Rattle.std.proofs.Common.{arith}
use Rattle.version_graph.specs.Domain.{has}
use Rattle.graph_pruning.proofs.SpreadLemmas.{empty-before, settled-from_clear}
use Rattle.graph_pruning.proofs.closing.spread.Goals as goal

pub returns-then-next-mark-clause-answer : goal.returns-then-next-mark-clause-answer
returns-then-next-mark-clause-answer c = settled-from_clear c.args.instance.now (has c.loop-next.domains) c.loop-next.trail.notes c.loop-next.next (omega arith) c.loop-next.invariant.clear

pub returns-then-not-step-clause-answer : goal.returns-then-not-step-clause-answer
returns-then-not-step-clause-answer c = empty-before c.args.instance.now (has c.args.domains.now) (has c.loop-next.domains) c.loop-next.invariant.shrinks c.if-not-step.ensures.answer

pub returns-clause-answer : goal.returns-clause-answer
returns-clause-answer c = settled-from_clear c.args.instance.now (has c.loop-next.domains) c.loop-next.trail.notes c.loop-next.next (omega arith) c.loop-next.invariant.clear
