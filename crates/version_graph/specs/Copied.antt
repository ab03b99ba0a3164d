-- What is copied from an instance while the instance of some of its packages and states is made.
use Rattle.std.specs.Prelude.{◌≡◌, ◌≢◌, ℕ, ◌<◌, Bool, true, List, Option, None, MatchOption, length, slice_index_or}
use Rattle.version_graph.specs.Graph.{Graph, packages, states, is_barred, is_forbidden}
use Rattle.version_graph.specs.Part.{Part, package_of, states_of, state_of}

-- whether g forbids alone the state in that place
abbrev pub is_barred_at : Graph → Part → ℕ → ℕ → Bool
is_barred_at g m p i = is_barred g (package_of m p) (state_of m p i)

-- whether g forbids the states in those places together
abbrev pub is_forbidden_at : Graph → Part → ℕ → ℕ → ℕ → ℕ → Bool
is_forbidden_at g m p i q j = is_forbidden g (package_of m p) (state_of m p i) (package_of m q) (state_of m q j)

-- h has the packages and states of the part
pub record HasPlaces (m : Part) (h : Graph) : Type 0 where
  pub each : packages h ≡ length m
  pub wide : (p : ℕ) → p < length m → states h p ≡ length (states_of m p)

-- what h forbids, g forbids
pub record IsCopied (g : Graph) (m : Part) (h : Graph) : Type 0 where
  pub barred : (p i : ℕ) → is_barred h p i ≡ true → is_barred_at g m p i ≡ true
  pub forbidden : (p i q j : ℕ) → is_forbidden h p i q j ≡ true → is_forbidden_at g m p i q j ≡ true

-- the new instance forbids what the old one does, and more only as g does
pub record Copies (g : Graph) (m : Part) (old new : Graph) : Type 0 where
  pub sizes : new.sizes ≡ old.sizes
  pub barred : (p i : ℕ) → is_barred old p i ≡ true → is_barred new p i ≡ true
  pub forbidden : (p i q j : ℕ) → is_forbidden old p i q j ≡ true → is_forbidden new p i q j ≡ true
  pub copied : IsCopied g m old → IsCopied g m new

-- for each package of g its place in the part, as far as this is below n
pub record ArePlaces (g : Graph) (m : Part) (n : ℕ) (places : List (Option ℕ)) : Type 0 where
  pub each : length places ≡ packages g
  pub at : (q : ℕ) → q < packages g → MatchOption (slice_index_or places q None) ((k : ℕ) → k < n → package_of m k ≢ q) (λ k. (k < n) × (package_of m k ≡ q))

-- what g forbids of the packages below n, h forbids
pub record IsCopiedTo (g : Graph) (m : Part) (h : Graph) (n : ℕ) : Type 0 where
  pub barred : (p i : ℕ) → p < n → i < length (states_of m p) → is_barred_at g m p i ≡ true → is_barred h p i ≡ true
  pub forbidden : (p i q j : ℕ) → p < n → q < p → i < length (states_of m p) → j < length (states_of m q) →
      is_forbidden_at g m p i q j ≡ true → is_forbidden h p i q j ≡ true
