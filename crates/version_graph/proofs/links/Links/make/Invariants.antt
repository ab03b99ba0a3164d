use Rattle.std.proofs.Common.{◌≡◌, ◌<◌, ℕ, true, length, get_or, replicate, []}
use Rattle.version_graph.proofs.links.Links.make.Given as goal

abbrev pub invariant-loop-k : goal.invariant-loop-k
invariant-loop-k l = record {
  each : length l.tables.items ≡ l.k;
  at : (k : ℕ) → k < l.k → get_or l.tables.items k [] ≡ replicate l.count (replicate (get_or l.sizes (get_or l.numbers.items k 0) 0) true);
}
