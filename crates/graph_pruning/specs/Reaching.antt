-- What holds while it is found which packages are reached. (own rule)
use Rattle.std.specs.Prelude.{◌≡◌, ℕ, ◌<◌, ◌≤◌, Bool, true, length, slice_index}
use Rattle.version_graph.specs.Graph.{Graph, packages, does_need}
use Rattle.version_graph.specs.Family.{Family}
use Rattle.graph_pruning.specs.declared.reaching.Reached.{Reached}
use Rattle.graph_pruning.specs.Pruned.{Spreads}
use Rattle.graph_pruning.specs.Marked.{marked}

-- the marked packages are the listed ones, and all of them are reached
pub record IsReaching (g : Graph) (f : Family) (s : Reached) : Type 0 where
  pub each : length s.marks.items ≡ packages g
  pub listed : (p : ℕ) → marked s.marks.items p ≡ true → (k : ℕ) × (k < length s.list.items) × (slice_index s.list.items k ≡ p)
  pub only : (k : ℕ) → k < length s.list.items → marked s.marks.items (slice_index s.list.items k) ≡ true
  pub least : (set : ℕ → Bool) → Spreads g f set → (p : ℕ) → marked s.marks.items p ≡ true → set p ≡ true

-- what was marked is marked, and what was listed stands in its place
pub record Grows (old new : Reached) : Type 0 where
  pub longer : length old.list.items ≤ length new.list.items
  pub earlier : (k : ℕ) → k < length old.list.items → slice_index new.list.items k ≡ slice_index old.list.items k
  pub marks : (p : ℕ) → marked old.marks.items p ≡ true → marked new.marks.items p ≡ true
  pub each : length new.marks.items ≡ length old.marks.items

-- what the states of the listed packages below the place need is marked
pub record AreNeedsMarked (g : Graph) (f : Family) (s : Reached) (below : ℕ) : Type 0 where
  pub done : (k i q : ℕ) → k < below → k < length s.list.items → f (slice_index s.list.items k) i ≡ true →
      does_need g (slice_index s.list.items k) i q ≡ true → marked s.marks.items q ≡ true
