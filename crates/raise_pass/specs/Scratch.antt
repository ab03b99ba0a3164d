-- What holds of the scratch values of raising, and of states while they are raised.
use Rattle.std.specs.Prelude.{◌≡◌, ℕ, ◌≤◌, Bool, false, List, length, vec_capacity}
use Rattle.version_graph.specs.Graph.{Graph, packages}
use Rattle.raise_pass.specs.Finishing.{CanRaise, Steps, end_of}
use Rattle.raise_pass.specs.Reached.{is_marked, IsUnmarkedBelow}
use Rattle.raise_pass.specs.declared.loose.Loose.{Loose}
use Rattle.raise_pass.specs.declared.scratch.RaiseScratch.{RaiseScratch}

-- each package has a mark, and none below the first place is marked
pub record IsLooseFor (g : Graph) (l : Loose) : Type 0 where
  pub each : length l.marks.items ≡ packages g
  pub below : IsUnmarkedBelow l.first l.marks.items

-- the scratch has a place for each package of the instance
pub record IsScratchFor (g : Graph) (s : RaiseScratch) : Type 0 where
  pub reached : length s.reached.items ≡ packages g
  pub room : packages g ≤ vec_capacity s.order
  pub loose : IsLooseFor g s.loose

-- a package that isn't marked can't be raised alone
pub record AreStuck (g : Graph) (chosen : List ℕ) (loose : List Bool) : Type 0 where
  pub stuck : (p j : ℕ) → is_marked loose p ≡ false → CanRaise g chosen p j → ⊥

-- steps lead from the old states to the new ones
pub record Leads (g : Graph) (old new : List ℕ) : Type 0 where
  pub between : List (List ℕ)
  pub steps : Steps g old between
  pub ends : end_of old between ≡ new
