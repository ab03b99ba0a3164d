-- States with some of them changed.
use Rattle.std.specs.Prelude.{◌≡◌, ℕ, ◌<◌, ◌≤◌, ◌-◌, true, ◌||◌, List, length, slice_index}
use Rattle.version_graph.specs.Graph.{Graph, packages, states, last, sum_below, is_root, does_need}
use Rattle.raise_pass.specs.Finishing.{CanRaise, IsTrimmed}

-- how far all packages together are below their last states
abbrev pub below_last : Graph → List ℕ → ℕ
below_last g chosen = sum_below (λ p. last g p - slice_index chosen p) (packages g)

-- one state for each package
pub record AreStates (g : Graph) (chosen : List ℕ) : Type 0 where
  pub each : length chosen ≡ packages g
  pub known : (p : ℕ) → p < packages g → slice_index chosen p < states g p

-- the least package that can be raised alone, and the greatest state that it can be raised to
pub record IsNextRaise (g : Graph) (chosen : List ℕ) (p j : ℕ) : Type 0 where
  pub can : CanRaise g chosen p j
  pub least : (q i : ℕ) → CanRaise g chosen q i → p ≤ q
  pub greatest : (i : ℕ) → CanRaise g chosen p i → i ≤ j

-- all that the state i of p needs is needed by its state j too, or is a root
pub record KeepsNeeds (g : Graph) (p i j : ℕ) : Type 0 where
  pub kept : (q : ℕ) → does_need g p i q ≡ true → (does_need g p j q || is_root g q) ≡ true

-- nothing was unneeded, and the states are as before
pub record WasTrimmed (g : Graph) (old new : List ℕ) : Type 0 where
  pub trimmed : IsTrimmed g old
  pub same : new ≡ old
