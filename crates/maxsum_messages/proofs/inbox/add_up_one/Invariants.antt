use Rattle.std.proofs.Common.{◌≡◌, ◌≢◌, ◌<◌, ℕ, [], get_or, length}
use Rattle.maxsum_messages.specs.Post.{heard}
use Rattle.maxsum_messages.proofs.Rows.{cell}
use Rattle.maxsum_messages.proofs.inbox.add_up_one.Given as goal

abbrev pub invariant-loop-i : goal.invariant-loop-i
invariant-loop-i g l = record {
  each : length l.sums ≡ length l.initial.sums;
  places : (r : ℕ) → length (get_or l.sums r []) ≡ length (get_or l.initial.sums r []);
  others : (r j : ℕ) → r ≢ l.q → cell g.W.Weight.none l.sums r j ≡ cell g.W.Weight.none l.initial.sums r j;
  summed : (j : ℕ) → j < l.i → cell g.W.Weight.none l.sums l.q j ≡ heard g.W.Weight.none g.W.Weight.plus j l.said;
}
