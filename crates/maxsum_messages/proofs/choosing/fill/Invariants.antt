use Rattle.std.proofs.Common.{◌≤◌, length, vec_capacity}
use Rattle.version_graph.specs.Domain.{has}
use Rattle.maxsum_messages.specs.Belief.{belief}
use Rattle.maxsum_messages.specs.Searched.{AreInOrderBelow}
use Rattle.maxsum_messages.proofs.choosing.fill.Given as goal

abbrev pub invariant-loop-i : goal.invariant-loop-i
invariant-loop-i g l = record {
  sorted : AreInOrderBelow g.W.Ord.cmp l.i (has l.domains l.p) (belief g.W.Weight.none g.W.Weight.plus l.fields l.inbox l.p) l.states.items;
  few : length l.states.items ≤ l.i;
  room : vec_capacity l.initial.states ≤ vec_capacity l.states;
}
