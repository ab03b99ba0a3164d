-- What an ending, and each answer on the way to it, says where it is due by a relation.
use Rattle.std.specs.Prelude.{ℕ, List, map, Result, Ok, Err, IfErr, MatchResult, String, string_bytes}
use Rattle.std.specs.declared.alloc.Global.{Global}
use Rattle.pkg_world.specs.Path.{Path}
use Rattle.command_answers.specs.declared.ending.Write.{Write}
use Rattle.command_answers.specs.declared.ending.Ending.{Ending}
use Rattle.command_answers.specs.declared.status.Status.{Status}
use Rattle.command_answers.specs.declared.status.Status.TheVariants.{Ok as StatusOk, Unsatisfiable, ReadFault, WriteFault, Blocked, Memory, SinkFault}

-- a file that is replaced, by its path and its new bytes
abbrev pub SaidWrite : Type 0
SaidWrite = Path × List ℕ

-- how a command ends: the files that it replaces, in their order, and then the line that it prints, or the refusal that it tells
pub record SaidEnding : Type 0 where
  pub writes : List SaidWrite
  pub told : Result (List ℕ) Status

abbrev pub said_write : Write → SaidWrite
said_write write = (write.path, write.bytes.items)

abbrev pub said_line : Result (String Global) Status → Result (List ℕ) Status
said_line (Ok line) = Ok (string_bytes line)
said_line (Err refusal) = Err refusal

abbrev pub said_ending : Ending → SaidEnding
said_ending it = record { writes = map said_write it.writes.items; told = said_line it.told }

-- a refusal that may be told after files are replaced: that no selection exists
abbrev pub IsToldLate : Status → Type 0
IsToldLate (Unsatisfiable log) = Unit {0}
IsToldLate _ = ⊥

-- what is told at the end is a line, or such a refusal
abbrev pub TellsLate : Ending → Type 0
TellsLate it = IfErr it.told IsToldLate

-- a refusal comes exactly where it is due; a failed read and want of memory tell nothing of the files
abbrev pub RefusesBy : {T : Type 0} → (Result T Status → Type 0) → Status → Type 0
RefusesBy IsDue StatusOk = ⊥
RefusesBy IsDue (ReadFault path) = Unit {0}
RefusesBy IsDue (WriteFault path) = ⊥
RefusesBy IsDue (Blocked path) = ⊥
RefusesBy IsDue Memory = Unit {0}
RefusesBy IsDue SinkFault = ⊥
RefusesBy IsDue status = IsDue (Err status)

-- the ending that is due, or the refusal
abbrev pub EndsBy : (Result SaidEnding Status → Type 0) → Result Ending Status → Type 0
EndsBy IsDue answer = MatchResult answer (λ it. IsDue (Ok (said_ending it))) (RefusesBy IsDue)
