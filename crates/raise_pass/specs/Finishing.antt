-- Finishing a solution: packages that no root reaches are set absent, and then one package after another is raised
-- alone, the least that can be and to the greatest state that it can have, until nothing is left to do. (own rule, after
-- Pkg's resolver: what is selected is needed, and nothing selected can be raised alone)
use Rattle.std.specs.Prelude.{◌≡◌, ◌≢◌, ℕ, ◌<◌, ◌≤◌, Bool, true, false, if◌then◌else◌, List, [], ◌∷◌, length, slice_index, slice_set}
use Rattle.version_graph.specs.Graph.{Graph, packages, last, is_root, does_need, is_offered, is_forbidden}

-- the set has the roots, and what the chosen states of its packages need
pub record Spreads (g : Graph) (chosen : List ℕ) (set : ℕ → Bool) : Type 0 where
  pub roots : (p : ℕ) → is_root g p ≡ true → set p ≡ true
  pub needs : (p q : ℕ) → p < packages g → set p ≡ true → does_need g p (slice_index chosen p) q ≡ true → set q ≡ true

-- p is reached from the roots by what chosen states need: each set that has the roots and what its packages need has p
pub record IsReached (g : Graph) (chosen : List ℕ) (p : ℕ) : Type 0 where
  pub in_each : (set : ℕ → Bool) → Spreads g chosen set → set p ≡ true

-- the set is that of the packages that are reached
pub record IsReachedSet (g : Graph) (chosen : List ℕ) (set : ℕ → Bool) : Type 0 where
  pub sound : (p : ℕ) → set p ≡ true → IsReached g chosen p
  pub spreads : Spreads g chosen set

-- nothing is unneeded: each package that isn't absent is reached
pub record IsTrimmed (g : Graph) (chosen : List ℕ) : Type 0 where
  pub reached : (p : ℕ) → p < packages g → slice_index chosen p ≢ last g p → IsReached g chosen p

-- p alone can be raised to its state j: a greater one that isn't absent, is offered, and is allowed with the state that is
-- chosen of each other package. So p itself isn't absent
pub record CanRaise (g : Graph) (chosen : List ℕ) (p j : ℕ) : Type 0 where
  pub known : p < packages g
  pub greater : slice_index chosen p < j
  pub present : j < last g p
  pub offered : is_offered g p j ≡ true
  pub allowed : (q : ℕ) → q < packages g → q ≢ p → is_forbidden g p j q (slice_index chosen q) ≡ false

-- some package isn't needed, and each that isn't reached is set absent
pub record Trims (g : Graph) (old new : List ℕ) : Type 0 where
  pub due : IsTrimmed g old → ⊥
  pub set : ℕ → Bool
  pub reached : IsReachedSet g old set
  pub each : length new ≡ length old
  pub result : (p : ℕ) → p < packages g → slice_index new p ≡ (if set p then slice_index old p else last g p)

-- all that isn't absent is needed, and the least package that can be raised alone takes the greatest state that it can be
-- raised to
pub record Raises (g : Graph) (old new : List ℕ) : Type 0 where
  pub trimmed : IsTrimmed g old
  pub place : ℕ
  pub state : ℕ
  pub can : CanRaise g old place state
  pub least : (p j : ℕ) → CanRaise g old p j → place ≤ p
  pub greatest : (j : ℕ) → CanRaise g old place j → j ≤ state
  pub result : new ≡ slice_set old place state

-- one step is one or the other
pub data Step (g : Graph) (old new : List ℕ) : Type 0 where
  trims : Trims g old new → Step g old new
  raises : Raises g old new → Step g old new

-- the lists are those after one step, after two steps, and so on
abbrev pub Steps : Graph → List ℕ → List (List ℕ) → Type 0
Steps g xs [] = Unit {0}
Steps g xs (ys ∷ more) = Step g xs ys × Steps g ys more

-- the last of the lists, or the first states where there is none
abbrev pub end_of : List ℕ → List (List ℕ) → List ℕ
end_of xs [] = xs
end_of xs (ys ∷ more) = end_of ys more

-- nothing is unneeded, and nothing can be raised alone
pub record IsFinished (g : Graph) (chosen : List ℕ) : Type 0 where
  pub trimmed : IsTrimmed g chosen
  pub highest : (p j : ℕ) → CanRaise g chosen p j → ⊥

-- steps lead from the old states to the new ones, after which neither kind of step applies
pub record Finishes (g : Graph) (old new : List ℕ) : Type 0 where
  pub between : List (List ℕ)
  pub steps : Steps g old between
  pub ends : end_of old between ≡ new
  pub finished : IsFinished g new
