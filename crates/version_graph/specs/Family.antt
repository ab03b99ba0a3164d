-- Families of domains, and the closure: the largest family within given domains in which each state has an
-- allowed partner in every other package's domain. It is a condition, without a queue or an order of work.
-- (own rule)
use Rattle.std.specs.Prelude.{◌≡◌, ◌≢◌, ℕ, ◌<◌, Bool, true, false, not, ◌&&◌, ◌||◌, ◌==◌, List, ◌∷◌, [], ◌++◌, ◌↔◌, length, slice_index}
use Rattle.std.specs.List.{list_all}
use Rattle.version_graph.specs.Graph.{Graph, packages, is_forbidden, is_offered, IsSolution}

-- for each package and state, whether it is in the package's domain
abbrev pub Family : Type 0
Family = ℕ → ℕ → Bool

-- each state of the inner family is in the outer one
pub record IsWithin (inner outer : Family) : Type 0 where
  pub at : (p i : ℕ) → inner p i ≡ true → outer p i ≡ true

-- the state i of p is allowed with a state of q's domain
pub record Meets (g : Graph) (f : Family) (p i q : ℕ) : Type 0 where
  pub partner : ℕ
  pub there : f q partner ≡ true
  pub allowed : is_forbidden g p i q partner ≡ false

-- the states i and j of p are allowed with the same states of q's domain
pub record AreAlike (g : Graph) (f : Family) (p i j q : ℕ) : Type 0 where
  pub alike : (k : ℕ) → f q k ≡ true → is_forbidden g p i q k ≡ is_forbidden g p j q k

-- each state has an allowed partner in every other package's domain
pub record IsStable (g : Graph) (f : Family) : Type 0 where
  pub meets : (p i q : ℕ) → f p i ≡ true → q < packages g → q ≢ p → Meets g f p i q

-- no domain is empty
pub record IsFilled (g : Graph) (f : Family) : Type 0 where
  pub some : (p : ℕ) → p < packages g → (i : ℕ) × (f p i ≡ true)

-- the state i of p is in the closure of f: in the union of all stable families within f
pub record InClosure (g : Graph) (f : Family) (p i : ℕ) : Type 0 where
  pub family : Family
  pub stable : IsStable g family
  pub within : IsWithin family f
  pub here : family p i ≡ true

-- s is the closure of f
pub record IsClosureOf (g : Graph) (f s : Family) : Type 0 where
  pub sound : (p i : ℕ) → s p i ≡ true → InClosure g f p i
  pub whole : (p i : ℕ) → InClosure g f p i → s p i ≡ true

-- s is within f and has all that the closure of f has
pub record LiesBetween (g : Graph) (f s : Family) : Type 0 where
  pub within : IsWithin s f
  pub whole : (p i : ℕ) → InClosure g f p i → s p i ≡ true

-- a domain of the closure of f is empty
pub record HasEmpty (g : Graph) (f : Family) : Type 0 where
  pub place : ℕ
  pub known : place < packages g
  pub none : (i : ℕ) → InClosure g f place i → ⊥

-- what is closed within the inner family is closed within the outer one
pub record IsBelow (g : Graph) (inner outer : Family) : Type 0 where
  pub below : (p i : ℕ) → InClosure g inner p i → InClosure g outer p i

-- the domain of each package is the one state that the list has for it
pub record IsDecided (g : Graph) (f : Family) (chosen : List ℕ) : Type 0 where
  pub each : length chosen ≡ packages g
  pub here : (p : ℕ) → p < packages g → f p (slice_index chosen p) ≡ true
  pub alone : (p i : ℕ) → p < packages g → f p i ≡ true → i ≡ slice_index chosen p

-- the domain of p cut to its state i, and every other domain left
abbrev pub narrowed : Family → ℕ → ℕ → Family
narrowed f p i q j = f q j && (not (q == p) || (j == i))

-- whether the state j of q is the one that each choice of the prefix makes for q
abbrev pub agrees : List (ℕ × ℕ) → Family
agrees prefix q j = list_all (λ c. not (q == c.0) || (j == c.1)) prefix

-- the states not forbidden alone, with each chosen package cut to its choice
abbrev pub under : Graph → List (ℕ × ℕ) → Family
under g prefix q j = is_offered g q j && agrees prefix q j

-- ---- laws

-- the closure is within the given domains, it is stable, and it has every stable family within them
pub record IsLargestStable (g : Graph) (f : Family) : Type 0 where
  pub within : (p i : ℕ) → InClosure g f p i → f p i ≡ true
  pub meets : (p i q : ℕ) → InClosure g f p i → q < packages g → q ≢ p → (j : ℕ) × InClosure g f q j × (is_forbidden g p i q j ≡ false)
  pub largest : (s : Family) → IsStable g s → IsWithin s f → (p i : ℕ) → s p i ≡ true → InClosure g f p i

abbrev pub ClosureIsLargest : Type 0
ClosureIsLargest = (g : Graph) (f : Family) → IsLargestStable g f

-- the smaller family has the smaller closure
abbrev pub ClosureIsMonotone : Type 0
ClosureIsMonotone = (g : Graph) (inner outer : Family) → IsWithin inner outer → IsBelow g inner outer

-- a family and what lies between it and its closure have the same closure
abbrev pub BetweenClosesAlike : Type 0
BetweenClosesAlike = (g : Graph) (f s : Family) → LiesBetween g f s → IsBelow g f s × IsBelow g s f

-- where one domain of the closure is empty, all are; so the least such package is 0
abbrev pub EmptyIsEverywhere : Type 0
EmptyIsEverywhere = (g : Graph) (f : Family) → HasEmpty g f → (p i : ℕ) → InClosure g f p i → ⊥

-- the closure under a prefix with one more choice is the closure of the closed domains cut to that choice
abbrev pub ClosingGoesOn : Type 0
ClosingGoesOn = (g : Graph) (prefix : List (ℕ × ℕ)) (p i : ℕ) (f : Family) → IsClosureOf g (under g prefix) f →
    (q j : ℕ) → InClosure g (narrowed f p i) q j ↔ InClosure g (under g (prefix ++ (p, i) ∷ [])) q j

-- a solution whose states the prefix agrees with stands in the closure under it
abbrev pub SolutionIsClosed : Type 0
SolutionIsClosed = (g : Graph) (prefix : List (ℕ × ℕ)) (chosen : List ℕ) → IsSolution g chosen →
    ((p : ℕ) → p < packages g → agrees prefix p (slice_index chosen p) ≡ true) →
    (p : ℕ) → p < packages g → InClosure g (under g prefix) p (slice_index chosen p)

-- a stable family of offered states with one state for each package is a solution
abbrev pub DecidedIsSolution : Type 0
DecidedIsSolution = (g : Graph) (f : Family) (chosen : List ℕ) → IsStable g f → IsWithin f (is_offered g) → IsDecided g f chosen →
    IsSolution g chosen
