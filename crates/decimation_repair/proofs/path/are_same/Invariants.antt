use Rattle.std.proofs.Common.{◌≡◌, ◌<◌, ℕ}
use Rattle.decimation_repair.specs.Path.{chosen_at}
use Rattle.decimation_repair.proofs.path.are_same.Given as goal

abbrev pub invariant-loop-k : goal.invariant-loop-k
invariant-loop-k l = record {
  packages : (j : ℕ) → j < l.k → (chosen_at l.one j).package ≡ (chosen_at l.other j).package;
  states : (j : ℕ) → j < l.k → (chosen_at l.one j).state ≡ (chosen_at l.other j).state;
}
