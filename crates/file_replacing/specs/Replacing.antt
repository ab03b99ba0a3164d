-- Replacing files one after another: which are replaced, and where that stops.
--     AreWritten writes old new               these files are replaced, in this order
--     Replaces writes old new answer          they all are, or replacing stops as the status tells
use Rattle.std.specs.Prelude.{◌≡◌, ℕ, List, [], ◌∷◌, ◌++◌, take, Option, Some, None, Result, Ok, Err}
use Rattle.std.specs.List.{AllByRecursion}
use Rattle.pkg_world.specs.Outside.{written}
use Rattle.pkg_world.specs.Path.{Path}
use Rattle.pkg_world.specs.Tree.{Files, holds}
use Rattle.command_answers.specs.declared.status.Status.{Status}
use Rattle.command_answers.specs.declared.status.Status.TheVariants.{WriteFault, Blocked, Memory}
use Rattle.command_answers.specs.Endings.{SaidWrite}

-- these files are replaced, in this order; where no files were told, none are told then
abbrev pub AreWritten : List SaidWrite → Option Files → Option Files → Type 0
AreWritten [] old new = new ≡ old
AreWritten (write ∷ more) old new = (mid : Option Files) × (written write.0 write.1 old ≡ Some mid) × AreWritten more mid new

-- the first of the files are replaced, and the rest are not
pub record IsPartly (writes : List SaidWrite) (old new : Option Files) : Type 0 where
  pub done : List SaidWrite
  pub rest : List SaidWrite
  pub split : writes ≡ done ++ rest
  pub are_written : AreWritten done old new

-- the files before this path are replaced, and neither it nor any after it
pub record IsStopped (writes : List SaidWrite) (old new : Option Files) (path : Path) : Type 0 where
  pub done : List SaidWrite
  pub next : SaidWrite
  pub rest : List SaidWrite
  pub split : writes ≡ done ++ next ∷ rest
  pub named : path ≡ next.0
  pub are_written : AreWritten done old new

-- the same, since the path is blocked
pub record IsBlocked (writes : List SaidWrite) (old new : Option Files) (path : Path) : Type 0 where
  pub stopped : IsStopped writes old new path
  pub blocked : written stopped.next.0 stopped.next.1 new ≡ None

-- how replacing files ends
abbrev pub Stops : List SaidWrite → Option Files → Option Files → Status → Type 0
Stops writes old new (WriteFault path) = IsStopped writes old new path
Stops writes old new (Blocked path) = IsBlocked writes old new path
Stops writes old new Memory = IsPartly writes old new
Stops writes old new _ = ⊥

abbrev pub Replaces : List SaidWrite → Option Files → Option Files → Result (Unit {0}) Status → Type 0
Replaces writes old new (Ok _) = AreWritten writes old new
Replaces writes old new (Err status) = Stops writes old new status

abbrev pub ReplacesOne : SaidWrite → Option Files → Option Files → Result (Unit {0}) Status → Type 0
ReplacesOne write old new (Ok _) = written write.0 write.1 old ≡ Some new
ReplacesOne write old new (Err (WriteFault path)) = (path ≡ write.0) × (new ≡ old)
ReplacesOne write old new (Err (Blocked path)) = (path ≡ write.0) × (written write.0 write.1 old ≡ None) × (new ≡ old)
ReplacesOne write old new (Err Memory) = new ≡ old
ReplacesOne write old new (Err _) = ⊥

-- a path that is not replaced, and lies above no file that is
abbrev pub IsApart : Path → SaidWrite → Type 0
IsApart other write = (k : ℕ) → other ≡ take k write.0 → ⊥

abbrev pub OthersStay : Type 0
OthersStay = (writes : List SaidWrite) (old new : Files) (other : Path) → AreWritten writes (Some old) (Some new) → AllByRecursion (IsApart other) writes → holds other new ≡ holds other old
