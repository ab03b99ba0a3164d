use Rattle.std.proofs.Common.{sym}
use Rattle.version_graph.specs.Domain.{has}
use Rattle.graph_pruning.proofs.SpreadLemmas.{shrinks-unmet}
use Rattle.graph_pruning.proofs.closing.drop_unmet.Goals as goal

pub returns-clause-shrinks : goal.returns-clause-shrinks
returns-clause-shrinks c =
    shrinks-unmet c.args.instance.now (has c.args.domains.now) (has c.take.new.self) c.args.p c.args.i c.args.q c.requires.second (λ e. c.requires.apart (sym e)) c.if-meets.ensures c.take.ensures.without
