-- What a command leaves: the files that it replaces one after another, and what is printed.
--     Ends IsDue old new text_old text_new status            how a command ends, by its status, where IsDue says how it is due to end
use Rattle.std.specs.Prelude.{◌≡◌, ◌⊎◌, ℕ, List, ◌++◌, take, Option, option_map, Result, Ok, Err}
use Rattle.pkg_world.specs.Tree.{Files}
use Rattle.command_answers.specs.declared.status.Status.{Status}
use Rattle.command_answers.specs.declared.status.Status.TheVariants.{Ok as StatusOk, Unsatisfiable, WriteFault, Blocked, Memory, SinkFault}
use Rattle.command_answers.specs.Endings.{SaidEnding, RefusesBy}
use Rattle.file_replacing.specs.Replacing.{AreWritten, IsPartly, IsStopped, IsBlocked}

-- the line of an ending is printed, or a front of it
pub record Prints (told : Result (List ℕ) Status) (text_old text_new : Option (List ℕ)) : Type 0 where
  pub line : List ℕ
  pub is_line : told ≡ Ok line
  pub text : text_new ≡ option_map (λ text. text ++ line) text_old

pub record PrintsFront (told : Result (List ℕ) Status) (text_old text_new : Option (List ℕ)) : Type 0 where
  pub line : List ℕ
  pub is_line : told ≡ Ok line
  pub kept : ℕ
  pub text : text_new ≡ option_map (λ text. text ++ take kept line) text_old

-- how an ending is carried out: its files are replaced, and then its line is printed, or its refusal told
abbrev pub Finishes : SaidEnding → Option Files → Option Files → Option (List ℕ) → Option (List ℕ) → Status → Type 0
Finishes it old new text_old text_new StatusOk = AreWritten it.writes old new × Prints it.told text_old text_new
Finishes it old new text_old text_new SinkFault = AreWritten it.writes old new × PrintsFront it.told text_old text_new
Finishes it old new text_old text_new (WriteFault path) = IsStopped it.writes old new path × (text_new ≡ text_old)
Finishes it old new text_old text_new (Blocked path) = IsBlocked it.writes old new path × (text_new ≡ text_old)
Finishes it old new text_old text_new Memory = IsPartly it.writes old new × (text_new ≡ text_old)
Finishes it old new text_old text_new status = (it.told ≡ Err status) × AreWritten it.writes old new × (text_new ≡ text_old)

-- an ending is due, and is carried out as far as the status tells
pub record Does (IsDue : Result SaidEnding Status → Type 0) (old new : Option Files) (text_old text_new : Option (List ℕ)) (status : Status) : Type 0 where
  pub ending : SaidEnding
  pub due : IsDue (Ok ending)
  pub finishes : Finishes ending old new text_old text_new status

-- a refusal is due, and all is left as it was
pub record Leaves (IsDue : Result SaidEnding Status → Type 0) (old new : Option Files) (text_old text_new : Option (List ℕ)) (status : Status) : Type 0 where
  pub due : RefusesBy IsDue status
  pub files : new ≡ old
  pub text : text_new ≡ text_old

-- how a command ends; want of memory may come before all files are replaced, a failed read has nothing replaced, and that no
-- selection exists may be told after a file is
abbrev pub Ends : (Result SaidEnding Status → Type 0) → Option Files → Option Files → Option (List ℕ) → Option (List ℕ) → Status → Type 0
Ends IsDue old new text_old text_new StatusOk = Does IsDue old new text_old text_new StatusOk
Ends IsDue old new text_old text_new SinkFault = Does IsDue old new text_old text_new SinkFault
Ends IsDue old new text_old text_new (WriteFault path) = Does IsDue old new text_old text_new (WriteFault path)
Ends IsDue old new text_old text_new (Blocked path) = Does IsDue old new text_old text_new (Blocked path)
Ends IsDue old new text_old text_new Memory = Leaves IsDue old new text_old text_new Memory ⊎ Does IsDue old new text_old text_new Memory
Ends IsDue old new text_old text_new (Unsatisfiable log) = Leaves IsDue old new text_old text_new (Unsatisfiable log) ⊎ Does IsDue old new text_old text_new (Unsatisfiable log)
Ends IsDue old new text_old text_new status = Leaves IsDue old new text_old text_new status
