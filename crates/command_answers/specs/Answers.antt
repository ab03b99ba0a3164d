-- What each status, and each answer on the way to it, says.
use Rattle.std.specs.Prelude.{◌≡◌, ℕ, List, ◌++◌, take, Option, Some, None, option_map, Result, Ok, Err, MatchResult, String, string_bytes}
use Rattle.std.specs.declared.alloc.Global.{Global}
use Rattle.pkg_world.specs.Outside.{Rose}
use Rattle.command_answers.specs.declared.status.Status.{Status}
use Rattle.command_answers.specs.declared.status.Status.TheVariants.{Ok as StatusOk, BadWords, ReadFault, WriteFault, Blocked, NotBuilt, Memory, SinkFault}
use Rattle.command_answers.specs.declared.status.Told.{Told}
use Rattle.command_answers.specs.declared.status.Told.TheVariants.{Whole, Failed, Memory as ToldMemory}
use Rattle.command_answers.specs.Lines.{status_line}

-- a refusal comes exactly where it is due; a failed read and want of memory tell nothing of the files
abbrev pub Refuses : {T : Type 0} → Result T Status → Status → Type 0
Refuses due StatusOk = ⊥
Refuses due (ReadFault path) = Unit {0}
Refuses due (WriteFault path) = ⊥
Refuses due (Blocked path) = ⊥
Refuses due Memory = Unit {0}
Refuses due SinkFault = ⊥
Refuses due status = due ≡ Err status

-- the line that is due, or the refusal
abbrev pub Answers : Result (List ℕ) Status → Result (String Global) Status → Type 0
Answers due answer = MatchResult answer (λ line. due ≡ Ok (string_bytes line)) (Refuses due)

-- the refusal that is due by the words alone, or want of memory
abbrev pub RefusesEarly : Option Status → Status → Type 0
RefusesEarly early (BadWords word) = early ≡ Some (BadWords word)
RefusesEarly early (NotBuilt word) = early ≡ Some (NotBuilt word)
RefusesEarly early Memory = Unit {0}
RefusesEarly early _ = ⊥

-- a status that the words alone don't give
abbrev pub IsLate : Status → Type 0
IsLate (BadWords word) = ⊥
IsLate (NotBuilt word) = ⊥
IsLate _ = Unit {0}

-- over a store that may not tell its files: an early refusal comes exactly where it is due
abbrev pub IsTimely : Option Status → Status → Type 0
IsTimely None status = IsLate status
IsTimely (Some refusal) status = RefusesEarly (Some refusal) status

-- a failed read comes only where its count rose
abbrev pub ReadFaultRose : ℕ → ℕ → Status → Type 0
ReadFaultRose before now (ReadFault path) = Rose before now
ReadFaultRose before now _ = Unit {0}

abbrev pub NoFault : Status → Type 0
NoFault (ReadFault path) = ⊥
NoFault (WriteFault path) = ⊥
NoFault SinkFault = ⊥
NoFault _ = Unit {0}

-- a failed write comes only where its count rose
abbrev pub WriteFaultRose : ℕ → ℕ → Status → Type 0
WriteFaultRose before now (WriteFault path) = Rose before now
WriteFaultRose before now _ = Unit {0}

-- a failed print comes only where its count rose
abbrev pub SinkFaultRose : ℕ → ℕ → Status → Type 0
SinkFaultRose before now SinkFault = Rose before now
SinkFaultRose before now _ = Unit {0}

-- over a store that may not tell its files: at Ok something is printed, at SinkFault maybe a part of it, else nothing
abbrev pub PrintsOnlyAtOk : Option (List ℕ) → Option (List ℕ) → Status → Type 0
PrintsOnlyAtOk old new StatusOk = Unit {0}
PrintsOnlyAtOk old new SinkFault = Unit {0}
PrintsOnlyAtOk old new _ = new ≡ old

-- at Ok nothing is printed as an error; else the line of the status, whole where it is told so
abbrev pub TellsLine : List ℕ → Option (List ℕ) → Option (List ℕ) → ℕ → ℕ → Told → Type 0
TellsLine line old new before now Whole = new ≡ option_map (λ text. text ++ line) old
TellsLine line old new before now Failed = Rose before now × ((kept : ℕ) × (new ≡ option_map (λ text. text ++ take kept line) old))
TellsLine line old new before now ToldMemory = new ≡ old

abbrev pub Tells : Option (List ℕ) → Option (List ℕ) → ℕ → ℕ → Status → Told → Type 0
Tells old new before now StatusOk told = (new ≡ old) × (told ≡ Whole)
Tells old new before now status told = TellsLine (status_line status) old new before now told

-- a status that is not Ok
abbrev pub IsRefusal : Status → Type 0
IsRefusal StatusOk = ⊥
IsRefusal _ = Unit {0}

-- a refusal before anything is replaced or printed
abbrev pub IsUnprinted : Status → Type 0
IsUnprinted StatusOk = ⊥
IsUnprinted (WriteFault path) = ⊥
IsUnprinted (Blocked path) = ⊥
IsUnprinted SinkFault = ⊥
IsUnprinted _ = Unit {0}

-- how printing a line ends
abbrev pub IsPrinted : List ℕ → Option (List ℕ) → Option (List ℕ) → Status → Type 0
IsPrinted line old new StatusOk = new ≡ option_map (λ text. text ++ line) old
IsPrinted line old new SinkFault = (kept : ℕ) × (new ≡ option_map (λ text. text ++ take kept line) old)
IsPrinted line old new Memory = new ≡ old
IsPrinted line old new _ = ⊥
