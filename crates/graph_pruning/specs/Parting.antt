-- What holds of the kept packages and standing states while they are gathered. (own rule)
use Rattle.std.specs.Prelude.{◌≡◌, ℕ, ◌<◌, Bool, true, length}
use Rattle.version_graph.specs.Graph.{IsListOf}
use Rattle.version_graph.specs.Family.{Family}
use Rattle.version_graph.specs.Part.{Part, package_of, states_of}
use Rattle.graph_pruning.specs.Marked.{does_stand}

-- the part has the kept packages below n, rising, each with its states that stand
pub record IsPartBelow (f : Family) (kept : ℕ → Bool) (standing : ℕ → ℕ → ℕ) (n : ℕ) (m : Part) : Type 0 where
  pub known : (k : ℕ) → k < length m → package_of m k < n
  pub rising : (p q : ℕ) → p < q → q < length m → package_of m p < package_of m q
  pub sound : (k : ℕ) → k < length m → kept (package_of m k) ≡ true
  pub whole : (p : ℕ) → p < n → kept p ≡ true → (k : ℕ) × (k < length m) × (package_of m k ≡ p)
  pub states : (k : ℕ) → k < length m → IsListOf (does_stand f standing (package_of m k)) (states_of m k)
