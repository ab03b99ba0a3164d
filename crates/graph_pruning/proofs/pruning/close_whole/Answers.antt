use Rattle.version_graph.specs.Domain.{has}
use Rattle.version_graph.proofs.FamilyLemmas.{nowhere}
use Rattle.graph_pruning.proofs.CutLemmas.{nothing_closed}
use Rattle.graph_pruning.proofs.pruning.close_whole.Goals as goal

pub returns-in-Empty-clause-closure : goal.returns-in-Empty-clause-closure
returns-in-Empty-clause-closure c =
    nothing_closed c.args.instance.now (has c.args.domains.now) (has c.empty_all.new.domains) (nowhere c.args.instance.now (has c.args.domains.now) c.in-Empty.ensures.answer.empty) c.empty_all.ensures.none
