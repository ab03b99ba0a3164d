use Rattle.graph_pruning.proofs.WideLemmas.{WidensBelow}
use Rattle.graph_pruning.proofs.reducing.Reduced.widened.Given as goal

abbrev pub invariant-loop-p : goal.invariant-loop-p
invariant-loop-p l = WidensBelow l.instance l.self.back l.chosen l.p l.states.items
