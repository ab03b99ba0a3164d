use Rattle.std.proofs.Common.{◌≡◌, ◌<◌, ℕ, [], length, get_or}
use Rattle.maxsum_messages.proofs.Rows.{cell}
use Rattle.maxsum_messages.proofs.grid.Grid.clear.Given as goal

abbrev pub invariant-loop-r : goal.invariant-loop-r
invariant-loop-r g l = record {
  each : length l.self ≡ length l.initial.self;
  places : (q : ℕ) → length (get_or l.self q []) ≡ length (get_or l.initial.self q []);
  zero : (q c : ℕ) → q < l.r → cell g.W.Weight.none l.self q c ≡ g.W.Weight.none;
}
