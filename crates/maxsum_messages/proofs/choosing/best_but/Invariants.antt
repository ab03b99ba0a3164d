use Rattle.std.proofs.Common.{◌&&◌, not}
use Rattle.version_graph.specs.Domain.{has}
use Rattle.maxsum_messages.specs.Belief.{belief}
use Rattle.maxsum_messages.specs.Searched.{is_skipped}
use Rattle.maxsum_messages.proofs.Best.{IsBestBelow}
use Rattle.maxsum_messages.proofs.choosing.best_but.Given as goal

abbrev pub invariant-loop-i : goal.invariant-loop-i
invariant-loop-i g l = IsBestBelow (λ a b. g.W.Ord.cmp (belief g.W.Weight.none g.W.Weight.plus l.fields l.inbox l.p a) (belief g.W.Weight.none g.W.Weight.plus l.fields l.inbox l.p b))
    (λ i. has l.domains l.p i && not (is_skipped l.skip i)) (λ i. i) l.i l.best
