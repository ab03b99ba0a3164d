use Rattle.std.proofs.Common.{◌≡◌, ◌<◌, ◌^◌, ℕ, [], vec_capacity, length, get_or}
use Rattle.version_graph.specs.Graph.{states}
use Rattle.version_graph.specs.Domain.{has}
use Rattle.maxsum_messages.specs.Post.{senders_of}
use Rattle.maxsum_messages.specs.Round.{weight_for, IsMessage}
use Rattle.maxsum_messages.specs.Kept.{HasRoom}
use Rattle.maxsum_messages.proofs.Rows.{cell}
use Rattle.maxsum_messages.proofs.saying.hear.Given as goal

abbrev pub invariant-loop-k : goal.invariant-loop-k
invariant-loop-k g l = record {
  room : HasRoom l.instance.sizes (vec_capacity l.desk.weighed) l.desk.raw.items;
  each : length l.grid ≡ length l.initial.grid;
  places : (r : ℕ) → length (get_or l.grid r []) ≡ length (get_or l.initial.grid r []);
  said : (r : ℕ) → r < l.k → IsMessage g.W.Weight.none g.W.Weight.plus g.W.Weight.minus g.W.Weight.clip g.W.Ord.cmp l.instance (has l.domains)
      (weight_for g.W.Weight.none g.W.Weight.plus l.fields l.inbox l.q (get_or (senders_of l.inbox l.q) r 0)) (get_or (senders_of l.inbox l.q) r 0) l.q (cell g.W.Weight.none l.grid r);
  small : (r j : ℕ) → r < l.k → j < states l.instance l.q → g.W.Weight.is_within (2 ^ 40) (cell g.W.Weight.none l.grid r j);
}
