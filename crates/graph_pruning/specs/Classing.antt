-- What holds while the classes of a package's states are found, from its greatest state down. (own rule)
use Rattle.std.specs.Prelude.{◌≡◌, ℕ, ◌<◌, ◌≤◌, true, List, length, slice_index, MatchBool}
use Rattle.version_graph.specs.Graph.{Graph, states}
use Rattle.version_graph.specs.Family.{Family}
use Rattle.graph_pruning.specs.declared.equality.ClassRow.{ClassRow}
use Rattle.graph_pruning.specs.Pruned.{StandsFor}

-- s stands for the state i of p, or is i where that isn't in the domain
abbrev pub IsClass : Graph → Family → ℕ → ℕ → ℕ → Type 0
IsClass g f p i s = MatchBool (f p i) (StandsFor g f p i s) (s ≡ i)

-- for each state of p the one that stands for it
pub record AreClassesOf (g : Graph) (f : Family) (p : ℕ) (row : List ℕ) : Type 0 where
  pub wide : length row ≡ states g p
  pub at : (i : ℕ) → i < states g p → IsClass g f p i (slice_index row i)

-- the states from n on have what stands for them, each of which was found
pub record IsClassing (g : Graph) (f : Family) (p n : ℕ) (s : ClassRow) : Type 0 where
  pub wide : length s.standing.items ≡ states g p
  pub rest : (i : ℕ) → i < n → i < states g p → slice_index s.standing.items i ≡ i
  pub done : (i : ℕ) → n ≤ i → i < states g p → IsClass g f p i (slice_index s.standing.items i)
  pub own : (k : ℕ) → k < length s.found.items → StandsFor g f p (slice_index s.found.items k) (slice_index s.found.items k)
  pub found : (i : ℕ) → n ≤ i → i < states g p → f p i ≡ true →
      (k : ℕ) × (k < length s.found.items) × (slice_index s.found.items k ≡ slice_index s.standing.items i)
