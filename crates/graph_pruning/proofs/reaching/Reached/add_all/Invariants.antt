use Rattle.std.proofs.Common.{◌≡◌, ◌<◌, ℕ, Bool, true, length, get_or}
use Rattle.version_graph.specs.Graph.{Graph}
use Rattle.version_graph.specs.Family.{Family}
use Rattle.graph_pruning.specs.Pruned.{Spreads}
use Rattle.graph_pruning.specs.Marked.{marked}
use Rattle.graph_pruning.specs.Reaching.{IsReaching, Grows}
use Rattle.graph_pruning.proofs.reaching.Reached.add_all.Given as goal

abbrev pub invariant-loop-number : goal.invariant-loop-number
invariant-loop-number l = record {
  grows : Grows l.initial.self l.self;
  here : (k : ℕ) → k < l.number-index → marked l.self.marks.items (get_or l.numbers k 0) ≡ true;
  keeps : (g : Graph) (f : Family) → IsReaching g f l.initial.self →
      ((set : ℕ → Bool) → Spreads g f set → (k : ℕ) → k < length l.numbers → set (get_or l.numbers k 0) ≡ true) → IsReaching g f l.self;
}
