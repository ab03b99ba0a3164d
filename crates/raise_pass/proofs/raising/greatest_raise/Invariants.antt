use Rattle.std.proofs.Common.{◌≤◌, ℕ}
use Rattle.raise_pass.specs.Finishing.{CanRaise}
use Rattle.raise_pass.proofs.raising.greatest_raise.Given as goal

abbrev pub invariant-loop-j : goal.invariant-loop-j
invariant-loop-j l = record {
  above : (i : ℕ) → l.j ≤ i → CanRaise l.instance l.chosen l.p i → ⊥;
}
