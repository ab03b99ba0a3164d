use Rattle.std.proofs.Common.{◌<◌, ◌≤◌, ◌^◌, length, vec_capacity, get_or}
use Rattle.std.specs.List.{All}
use Rattle.version_graph.specs.Domain.{has}
use Rattle.maxsum_messages.specs.Round.{weight_for}
use Rattle.maxsum_messages.specs.Weighed.{AreWeighedBelow}
use Rattle.maxsum_messages.proofs.weighed.list.Given as goal

abbrev pub invariant-loop-i : goal.invariant-loop-i
invariant-loop-i g l = record {
  weighed : AreWeighedBelow l.i (has l.domains l.p) (weight_for g.W.Weight.none g.W.Weight.plus l.fields l.inbox l.q l.p) l.weighed.items;
  each : All (λ x. g.W.Weight.is_within (2 ^ 52) x.0 × (x.1 < get_or l.inbox.sizes l.p 0)) l.weighed.items;
  few : length l.weighed.items ≤ l.i;
  room : vec_capacity l.initial.weighed ≤ vec_capacity l.weighed;
}
