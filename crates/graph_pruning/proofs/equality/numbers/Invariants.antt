use Rattle.std.proofs.Common.{◌≡◌, ◌<◌, ℕ, length, get_or}
use Rattle.graph_pruning.proofs.equality.numbers.Given as goal

abbrev pub invariant-loop-k : goal.invariant-loop-k
invariant-loop-k l = record {
  each : length l.list.items ≡ l.k;
  own : (n : ℕ) → n < l.k → get_or l.list.items n 0 ≡ n;
}
