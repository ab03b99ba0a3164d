use Rattle.std.proofs.Common.{◌≡◌, ◌<◌, ℕ, [], get_or, length}
use Rattle.maxsum_messages.specs.Post.{heard}
use Rattle.maxsum_messages.proofs.Rows.{cell}
use Rattle.maxsum_messages.proofs.inbox.add_up.Given as goal

abbrev pub invariant-loop-q : goal.invariant-loop-q
invariant-loop-q g l = record {
  each : length l.sums ≡ length l.initial.sums;
  places : (r : ℕ) → length (get_or l.sums r []) ≡ length (get_or l.initial.sums r []);
  summed : (r i : ℕ) → r < l.q → i < get_or l.sizes r 0 → cell g.W.Weight.none l.sums r i ≡ heard g.W.Weight.none g.W.Weight.plus i (get_or l.said r []);
}
