use Rattle.std.proofs.Common.{◌≡◌, ◌≢◌, ◌<◌, ℕ, [], length, get_or}
use Rattle.maxsum_messages.proofs.Rows.{cell}
use Rattle.maxsum_messages.proofs.grid.Grid.clear_row.Given as goal

abbrev pub invariant-loop-c : goal.invariant-loop-c
invariant-loop-c g l = record {
  each : length l.self ≡ length l.initial.self;
  places : (q : ℕ) → length (get_or l.self q []) ≡ length (get_or l.initial.self q []);
  others : (q c : ℕ) → q ≢ l.r → cell g.W.Weight.none l.self q c ≡ cell g.W.Weight.none l.initial.self q c;
  zero : (c : ℕ) → c < l.c → cell g.W.Weight.none l.self l.r c ≡ g.W.Weight.none;
}
