use Rattle.graph_pruning.proofs.SpreadLemmas.{clear-from_settled}
use Rattle.graph_pruning.proofs.closing.begin.Goals as goal

pub returns-in-Some-clause-answer : goal.returns-in-Some-clause-answer
returns-in-Some-clause-answer c =
    let found = c.in-Some.ensures in
    (found.0, clear-from_settled c.args.instance.now c.args.domains.now c.args.trail.now c.in-Some.mark c.requires (c.requires.settled c.in-Some.mark found.0 found.1))
