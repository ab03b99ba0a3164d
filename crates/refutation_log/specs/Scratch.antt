-- What holds of the scratch values of the check.
use Rattle.std.specs.Prelude.{◌≡◌, ℕ, ◌<◌, Bool, true, false, not, List, [], length, slice_index_or, take}
use Rattle.version_graph.specs.Graph.{Graph, packages, states, is_offered}
use Rattle.version_graph.specs.Family.{InClosure, under}
use Rattle.version_graph.specs.Domain.{has}
use Rattle.version_graph.specs.Noted.{Holds}
use Rattle.graph_pruning.specs.Pruned.{Pruning, IsPruningOf}
use Rattle.graph_pruning.specs.Marked.{standing_in, HasRows}
use Rattle.refutation_log.specs.declared.board.Board.{Board}
use Rattle.refutation_log.specs.declared.scratch.RefuteScratch.{RefuteScratch}

-- whether no branch may be on the package
abbrev pub marks : Board → ℕ → Bool
marks s p = slice_index_or s.shut.items p false

-- the domains, and the states that stand for no child's state yet, with their trails, and a mark for each package; the
-- rows say what stands for each state
pub record Fits (g : Graph) (rows : List (List ℕ)) (s : Board) : Type 0 where
  pub domains : Holds g s.domains s.trail
  pub missing : Holds g s.missing s.missed
  pub shut : length s.shut.items ≡ packages g
  -- of a package on which a branch may be every state is missing
  pub whole : (p i : ℕ) → marks s p ≡ false → is_offered g p i ≡ true → has s.missing p i ≡ true
  pub shape : HasRows g rows
  -- what stands for a state is one of the package
  pub known : (p i : ℕ) → p < packages g → i < states g p → standing_in rows p i < states g p
  -- what stands for a closed state of a package on which a branch may be isn't forbidden alone
  pub offered : (p i : ℕ) → marks s p ≡ false → InClosure g (under g []) p i → is_offered g p (standing_in rows p i) ≡ true

-- the scratch was made for the instance: the domains are full, no state is noted, its classes are those of the
-- instance's pruning, and a branch may be on the packages that are kept
pub record IsScratchFor (g : Graph) (s : RefuteScratch) : Type 0 where
  pub fits : Fits g s.classes s.board
  pub full : s.board.trail.notes ≡ []
  pub pruning : Pruning
  pub prunes : IsPruningOf g pruning
  pub stands : pruning.standing ≡ standing_in s.classes
  pub free : (p : ℕ) → p < packages g → marks s.board p ≡ not (pruning.kept p)

-- what was noted is noted, and what was marked is marked
pub record IsRestored (old new : Board) : Type 0 where
  pub trail : new.trail.notes ≡ old.trail.notes
  pub missed : new.missed.notes ≡ old.missed.notes
  pub shut : new.shut.items ≡ old.shut.items

-- the same, but that states were taken from the missing ones
pub record IsExtended (old new : Board) : Type 0 where
  pub trail : new.trail.notes ≡ old.trail.notes
  pub missed : take (length old.missed.notes) new.missed.notes ≡ old.missed.notes
  pub shut : new.shut.items ≡ old.shut.items
