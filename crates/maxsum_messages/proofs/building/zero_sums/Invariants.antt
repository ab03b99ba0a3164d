use Rattle.std.proofs.Common.{ℕ, ◌≡◌, ◌<◌, get_or, length, []}
use Rattle.maxsum_messages.proofs.Rows.{cell}
use Rattle.maxsum_messages.proofs.building.zero_sums.Given as goal

abbrev pub invariant-loop-size : goal.invariant-loop-size
invariant-loop-size g l = record {
  each : length l.grid ≡ l.size-index;
  wide : (q : ℕ) → q < length l.grid → length (get_or l.grid q []) ≡ get_or l.sizes q 0;
  zero : (q i : ℕ) → cell g.W.Weight.none l.grid q i ≡ g.W.Weight.none;
}
