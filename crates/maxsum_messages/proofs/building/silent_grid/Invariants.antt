use Rattle.std.proofs.Common.{ℕ, ◌≡◌, ◌<◌, get_or, length, []}
use Rattle.maxsum_messages.proofs.Rows.{cell}
use Rattle.maxsum_messages.proofs.building.silent_grid.Given as goal

abbrev pub invariant-loop-k : goal.invariant-loop-k
invariant-loop-k g l = record {
  each : length l.grid ≡ l._k;
  wide : (q : ℕ) → q < length l.grid → length (get_or l.grid q []) ≡ l.count;
  zero : (q i : ℕ) → cell g.W.Weight.none l.grid q i ≡ g.W.Weight.none;
}
