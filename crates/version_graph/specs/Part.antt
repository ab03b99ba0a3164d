-- Some packages of an instance, and of each some of its states, by their numbers in it; and the instance that they make.
use Rattle.std.specs.Prelude.{◌≡◌, ◌≢◌, ℕ, ◌<◌, List, [], length, slice_index, slice_index_or}
use Rattle.std.specs.List.Sorted.{IsStrictlyIncreasing}
use Rattle.version_graph.specs.Graph.{Graph, packages, states, is_barred, is_forbidden}

-- each package's number, with the numbers of its states
abbrev pub Part : Type 0
Part = List (ℕ × List ℕ)

-- the number of the package in that place
abbrev pub package_of : Part → ℕ → ℕ
package_of m p = (slice_index_or m p (0, [])).0

-- the numbers of the states of the package in that place
abbrev pub states_of : Part → ℕ → List ℕ
states_of m p = (slice_index_or m p (0, [])).1

-- the number of the state in the place i of the package in the place p
abbrev pub state_of : Part → ℕ → ℕ → ℕ
state_of m p i = slice_index (states_of m p) i

-- packages and states that there are, each once and rising, and a state for each package
pub record IsPartOf (g : Graph) (m : Part) : Type 0 where
  pub known : (p : ℕ) → p < length m → package_of m p < packages g
  pub rising : (p q : ℕ) → p < q → q < length m → package_of m p < package_of m q
  pub some : (p : ℕ) → p < length m → 0 < length (states_of m p)
  pub ordered : (p : ℕ) → p < length m → IsStrictlyIncreasing (states_of m p)
  pub there : (p i : ℕ) → p < length m → i < length (states_of m p) → state_of m p i < states g (package_of m p)

-- h has the packages and states of the part, in their order, forbidden as they are in g
pub record IsRestrictedTo (g : Graph) (m : Part) (h : Graph) : Type 0 where
  pub each : packages h ≡ length m
  pub wide : (p : ℕ) → p < length m → states h p ≡ length (states_of m p)
  pub barred : (p i : ℕ) → p < length m → i < length (states_of m p) → is_barred h p i ≡ is_barred g (package_of m p) (state_of m p i)
  pub forbidden : (p i q j : ℕ) → p < length m → i < length (states_of m p) → q < length m → j < length (states_of m q) → p ≢ q →
      is_forbidden h p i q j ≡ is_forbidden g (package_of m p) (state_of m p i) (package_of m q) (state_of m q j)
