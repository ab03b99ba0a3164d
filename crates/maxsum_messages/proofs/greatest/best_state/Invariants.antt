use Rattle.std.proofs.Common.{get_or}
use Rattle.version_graph.specs.Domain.{has}
use Rattle.maxsum_messages.proofs.Best.{IsBestBelow}
use Rattle.maxsum_messages.proofs.greatest.best_state.Given as goal

abbrev pub invariant-loop-i : goal.invariant-loop-i
invariant-loop-i g l = IsBestBelow g.W.Ord.cmp (has l.domains l.q) (λ i. get_or l.weights i g.W.Weight.none) l.i l.best
