use Rattle.std.proofs.Common.{◌-◌}
use Rattle.maxsum_messages.specs.Belief.{belief}
use Rattle.maxsum_messages.specs.Searched.{IsSplit}
use Rattle.maxsum_messages.proofs.choosing.place_for.Given as goal

abbrev pub invariant-halving : goal.invariant-halving
invariant-halving g l = IsSplit g.W.Ord.cmp (belief g.W.Weight.none g.W.Weight.plus l.fields l.inbox l.p) l.states l.i l.span.low l.span.high

abbrev pub decreases-halving : goal.decreases-halving
decreases-halving g l = l.span.high - l.span.low
