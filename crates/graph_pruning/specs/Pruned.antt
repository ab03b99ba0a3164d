-- What pruning keeps of an instance: the packages that are reached, and of states that make no difference one.
-- Each part is data, so that a call can compute it, and a relation says what it must be. (own rule)
use Rattle.std.specs.Prelude.{◌≡◌, ◌≢◌, ℕ, ◌<◌, ◌≤◌, Bool, true, false, ◌&&◌, ◌||◌, ◌==◌, []}
use Rattle.version_graph.specs.Graph.{Graph, packages, last, is_root, does_need, is_forbidden}
use Rattle.version_graph.specs.Family.{Family, IsFilled, IsClosureOf, under}

pub record Pruning : Type 0 where
  -- the closed domains where nothing is chosen
  pub closed : Family
  -- whether a package is kept
  pub kept : ℕ → Bool
  -- the state that stands for a state of a package
  pub standing : ℕ → ℕ → ℕ

-- the pruned domains: the closed ones, with each package that isn't kept cut to its absent state
abbrev pub left : Graph → Pruning → Family
left g pr p i = pr.closed p i && (pr.kept p || (i == last g p))

-- the set has the roots, and with a package all that the states of its domain need
pub record Spreads (g : Graph) (f : Family) (set : ℕ → Bool) : Type 0 where
  pub roots : (p : ℕ) → is_root g p ≡ true → set p ≡ true
  pub needs : (p i q : ℕ) → set p ≡ true → f p i ≡ true → does_need g p i q ≡ true → set q ≡ true

-- the packages that are reached from the roots by needs of states in the domains: those in every such set
pub record AreReached (g : Graph) (f : Family) (set : ℕ → Bool) : Type 0 where
  pub spreads : Spreads g f set
  pub least : (other : ℕ → Bool) → Spreads g f other → (p : ℕ) → set p ≡ true → other p ≡ true

-- the packages that are reached are kept; where a domain is empty, none is
pub record AreKept (g : Graph) (f : Family) (set : ℕ → Bool) : Type 0 where
  pub reached : IsFilled g f → AreReached g f set
  pub none : (p : ℕ) → p < packages g → ((i : ℕ) → f p i ≡ false) → (q : ℕ) → set q ≡ false

-- two states of p's domain that allow the same states of every other package's domain
pub record SameIn (g : Graph) (f : Family) (p i j : ℕ) : Type 0 where
  pub first : f p i ≡ true
  pub second : f p j ≡ true
  pub alike : (q k : ℕ) → q ≢ p → f q k ≡ true → is_forbidden g p i q k ≡ is_forbidden g p j q k

-- s is the greatest state that is the same as i
pub record StandsFor (g : Graph) (f : Family) (p i s : ℕ) : Type 0 where
  pub same : SameIn g f p i s
  pub greatest : (j : ℕ) → SameIn g f p i j → j ≤ s

-- the greatest state of a class stands for each of its states; a state outside the domains stands for itself
pub record AreStanding (g : Graph) (f : Family) (standing : ℕ → ℕ → ℕ) : Type 0 where
  pub stands : (p i : ℕ) → f p i ≡ true → StandsFor g f p i (standing p i)
  pub others : (p i : ℕ) → f p i ≡ false → standing p i ≡ i

-- the pruning of an instance
pub record IsPruningOf (g : Graph) (pr : Pruning) : Type 0 where
  pub closure : IsClosureOf g (under g []) pr.closed
  pub reached : AreKept g pr.closed pr.kept
  pub classes : AreStanding g (left g pr) pr.standing

-- nothing is taken away but what isn't closed: every package is kept unless a domain is empty, and each state
-- stands for itself alone
pub record IsUnpruned (g : Graph) (pr : Pruning) : Type 0 where
  pub closure : IsClosureOf g (under g []) pr.closed
  pub all : IsFilled g pr.closed → (p : ℕ) → p < packages g → pr.kept p ≡ true
  pub known : (p : ℕ) → pr.kept p ≡ true → p < packages g
  pub none : (p : ℕ) → p < packages g → ((i : ℕ) → pr.closed p i ≡ false) → (q : ℕ) → pr.kept q ≡ false
  pub alone : (p i : ℕ) → pr.standing p i ≡ i

-- the same domains, packages and classes
pub record SamePruning (a b : Pruning) : Type 0 where
  pub domains : (p i : ℕ) → a.closed p i ≡ b.closed p i
  pub packages : (p : ℕ) → a.kept p ≡ b.kept p
  pub classes : (p i : ℕ) → a.standing p i ≡ b.standing p i

-- ---- laws

-- an instance has one pruning
abbrev pub OnePruning : Type 0
OnePruning = (g : Graph) (a b : Pruning) → IsPruningOf g a → IsPruningOf g b → SamePruning a b
