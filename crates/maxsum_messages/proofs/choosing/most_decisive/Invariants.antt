use Rattle.version_graph.specs.Domain.{has}
use Rattle.maxsum_messages.specs.Belief.{belief}
use Rattle.maxsum_messages.proofs.Leads.{IsLedBelow}
use Rattle.maxsum_messages.proofs.choosing.most_decisive.Given as goal

abbrev pub invariant-loop-p : goal.invariant-loop-p
invariant-loop-p g l = IsLedBelow g.W.Ord.cmp g.W.Weight.minus (has l.domains) (belief g.W.Weight.none g.W.Weight.plus l.fields l.inbox) l.p l.best
