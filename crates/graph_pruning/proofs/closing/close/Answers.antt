use Rattle.std.proofs.Common.{refl}
use Rattle.version_graph.specs.Domain.{has}
use Rattle.graph_pruning.proofs.SpreadLemmas.{empty-before}
use Rattle.graph_pruning.proofs.closing.close.Goals as goal

pub returns-then-not-spread-clause-answer : goal.returns-then-not-spread-clause-answer
returns-then-not-spread-clause-answer c = record {
  empty = empty-before c.args.instance.now (has c.args.domains.now) (has c.begin.new.domains) c.begin.ensures.shrinks c.if-not-spread.ensures.answer;
  least_is = refl;
}
