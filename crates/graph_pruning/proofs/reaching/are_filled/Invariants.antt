use Rattle.std.proofs.Common.{◌≡◌, ◌<◌, ℕ, true}
use Rattle.version_graph.specs.Domain.{has}
use Rattle.graph_pruning.proofs.reaching.are_filled.Given as goal

abbrev pub invariant-loop-p : goal.invariant-loop-p
invariant-loop-p l = (q : ℕ) → q < l.p → (i : ℕ) × (has l.domains q i ≡ true)
