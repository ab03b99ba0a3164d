-- Messages that are the same at each state.
use Rattle.std.proofs.Common.{◌≡◌, ℕ, ◌∙◌}
use Rattle.std.specs.declared.cmp.Ordering.{Ordering}
use Rattle.version_graph.specs.Graph.{Graph}
use Rattle.version_graph.specs.Family.{Family}
use Rattle.maxsum_messages.specs.Round.{IsMessage}

pub message-same : {W : Type 0} (none : W) (plus minus : W → W → W) (clip : W → W) (cmp : W → W → Ordering) (g : Graph) (d : Family) (weight : ℕ → W) (p q : ℕ) (said other : ℕ → W) →
    ((j : ℕ) → other j ≡ said j) → IsMessage none plus minus clip cmp g d weight p q said → IsMessage none plus minus clip cmp g d weight p q other
message-same none plus minus clip cmp g d weight p q said other same m = record {
  raw = m.raw;
  top = m.top;
  best = m.best;
  highest = m.highest;
  inside = λ j t. same j ∙ m.inside j t;
  outside = λ j t. same j ∙ m.outside j t;
}
