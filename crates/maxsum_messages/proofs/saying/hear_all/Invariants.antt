use Rattle.std.proofs.Common.{◌<◌, ◌^◌, ℕ, [], vec_capacity, length, get_or}
use Rattle.version_graph.specs.Domain.{has}
use Rattle.maxsum_messages.specs.Post.{senders_of}
use Rattle.maxsum_messages.specs.Round.{weight_for, IsMessage}
use Rattle.maxsum_messages.specs.Kept.{HasRoom, AreShaped}
use Rattle.maxsum_messages.proofs.Rows.{cell}
use Rattle.maxsum_messages.proofs.saying.hear_all.Given as goal

abbrev pub invariant-loop-q : goal.invariant-loop-q
invariant-loop-q g l = record {
  room : HasRoom l.instance.sizes (vec_capacity l.desk.weighed) l.desk.raw.items;
  shaped : AreShaped l.inbox.sizes l.inbox.senders l.next.items;
  said : (q k : ℕ) → q < l.q → k < length (senders_of l.inbox q) → IsMessage g.W.Weight.none g.W.Weight.plus g.W.Weight.minus g.W.Weight.clip g.W.Ord.cmp l.instance (has l.domains)
      (weight_for g.W.Weight.none g.W.Weight.plus l.fields l.inbox q (get_or (senders_of l.inbox q) k 0)) (get_or (senders_of l.inbox q) k 0) q (cell g.W.Weight.none (get_or l.next.items q []) k);
  small : (q k j : ℕ) → q < l.q → g.W.Weight.is_within (2 ^ 40) (cell g.W.Weight.none (get_or l.next.items q []) k j);
}
