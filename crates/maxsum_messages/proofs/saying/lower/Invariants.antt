use Rattle.std.proofs.Common.{◌≡◌, ◌≢◌, ◌<◌, ◌^◌, ℕ, [], length, get_or, cond}
use Rattle.version_graph.specs.Domain.{has}
use Rattle.maxsum_messages.proofs.Rows.{cell}
use Rattle.maxsum_messages.proofs.saying.lower.Given as goal

abbrev pub invariant-loop-j : goal.invariant-loop-j
invariant-loop-j g l = record {
  each : length l.grid ≡ length l.initial.grid;
  places : (r : ℕ) → length (get_or l.grid r []) ≡ length (get_or l.initial.grid r []);
  others : (r j : ℕ) → r ≢ l.k → cell g.W.Weight.none l.grid r j ≡ cell g.W.Weight.none l.initial.grid r j;
  said : (j : ℕ) → j < l.j → cell g.W.Weight.none l.grid l.k j ≡ cond (has l.domains l.q j) (g.W.Weight.clip (g.W.Weight.minus (get_or l.raw j g.W.Weight.none) l.top)) g.W.Weight.none;
  small : (j : ℕ) → j < l.j → g.W.Weight.is_within (2 ^ 40) (cell g.W.Weight.none l.grid l.k j);
}
