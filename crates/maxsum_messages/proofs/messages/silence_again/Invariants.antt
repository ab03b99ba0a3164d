use Rattle.std.proofs.Common.{◌≡◌, ◌<◌, ℕ, [], length, get_or}
use Rattle.maxsum_messages.proofs.Rows.{cell}
use Rattle.maxsum_messages.proofs.messages.silence_again.Given as goal

abbrev pub invariant-loop-q : goal.invariant-loop-q
invariant-loop-q g l = record {
  each : length l.next.items ≡ length l.initial.next.items;
  rows : (q : ℕ) → length (get_or l.next.items q []) ≡ length (get_or l.initial.next.items q []);
  places : (q k : ℕ) → length (get_or (get_or l.next.items q []) k []) ≡ length (get_or (get_or l.initial.next.items q []) k []);
  zero : (q k j : ℕ) → q < l.q → cell g.W.Weight.none (get_or l.next.items q []) k j ≡ g.W.Weight.none;
}
