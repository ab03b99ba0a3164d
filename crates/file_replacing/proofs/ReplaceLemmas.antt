-- How files are replaced one after another, and where that stops.
use Rattle.std.proofs.Common.{◌≡◌, ℕ, List, [], ◌∷◌, map, Option, Some, None, Result, Ok, Err, refl, sym, ap, subst, arith}
use Rattle.pkg_world.specs.Outside.{written}
use Rattle.pkg_world.specs.Tree.{Files}
use Rattle.command_answers.specs.declared.ending.Write.{Write}
use Rattle.command_answers.specs.declared.status.Status.{Status}
use Rattle.command_answers.specs.declared.status.Status.TheVariants.{Ok as StatusOk, BadWords, MissingFile, BadFile, NeedsFetch, NoIdentity, NoSource, Unsatisfiable, GaveUp, ReadFault, WriteFault, Blocked, UnknownName, UnknownPackage, AmbiguousName, Limit, Differs, NotInProject, NotInManifest, NotPinned, NotAProject, NameTaken, WrongJulia, NotBuilt, Memory, SinkFault}
use Rattle.command_answers.specs.Endings.{SaidWrite, said_write}
use Rattle.file_replacing.specs.Replacing.{AreWritten, IsStopped, Stops, Replaces, ReplacesOne}

-- ---- replacing

-- a file that is not replaced is where replacing stops
abbrev stop_at : (write : SaidWrite) (more : List SaidWrite) (old new : Option Files) (path : List (List ℕ)) → path ≡ write.0 → new ≡ old → IsStopped (write ∷ more) old new path
stop_at write more old new path named same = record { done = []; next = write; rest = more; split = refl; named = named; are_written = same }

pub stops_first : (write : SaidWrite) (more : List SaidWrite) (old new : Option Files) (status : Status) → ReplacesOne write old new (Err status) → Stops (write ∷ more) old new status
stops_first write more old new StatusOk h = absurd h
stops_first write more old new (BadWords word) h = absurd h
stops_first write more old new (MissingFile path) h = absurd h
stops_first write more old new (BadFile path cause) h = absurd h
stops_first write more old new (NeedsFetch name) h = absurd h
stops_first write more old new (NoIdentity name) h = absurd h
stops_first write more old new (NoSource uuid) h = absurd h
stops_first write more old new (Unsatisfiable log) h = absurd h
stops_first write more old new (GaveUp log) h = absurd h
stops_first write more old new (ReadFault path) h = absurd h
stops_first write more old new (WriteFault path) h = stop_at write more old new path h.0 h.1
stops_first write more old new (Blocked path) h = record { stopped = stop_at write more old new path h.0 h.2; blocked = subst (λ now. written write.0 write.1 now ≡ None) (sym h.2) h.1 }
stops_first write more old new (UnknownName name) h = absurd h
stops_first write more old new (UnknownPackage uuid) h = absurd h
stops_first write more old new (AmbiguousName first second) h = absurd h
stops_first write more old new (Limit kind count) h = absurd h
stops_first write more old new (Differs difference) h = absurd h
stops_first write more old new (NotInProject name) h = absurd h
stops_first write more old new (NotInManifest name) h = absurd h
stops_first write more old new (NotPinned name) h = absurd h
stops_first write more old new (NotAProject path) h = absurd h
stops_first write more old new (NameTaken uuid) h = absurd h
stops_first write more old new (WrongJulia text) h = absurd h
stops_first write more old new (NotBuilt word) h = absurd h
stops_first write more old new Memory h = record { done = []; rest = write ∷ more; split = refl; are_written = h }
stops_first write more old new SinkFault h = absurd h

-- behind a file that is replaced, the rest goes on
abbrev further : (write : SaidWrite) (more : List SaidWrite) (old mid new : Option Files) (path : List (List ℕ)) → written write.0 write.1 old ≡ Some mid → IsStopped more mid new path
    → IsStopped (write ∷ more) old new path
further write more old mid new path one it =
    record { done = write ∷ it.done; next = it.next; rest = it.rest; split = ap (λ l. write ∷ l) it.split; named = it.named; are_written = (mid, one, it.are_written) }

pub stops_later : (write : SaidWrite) (more : List SaidWrite) (old mid new : Option Files) → written write.0 write.1 old ≡ Some mid → (status : Status) → Stops more mid new status → Stops (write ∷ more) old new status
stops_later write more old mid new one StatusOk h = absurd h
stops_later write more old mid new one (BadWords word) h = absurd h
stops_later write more old mid new one (MissingFile path) h = absurd h
stops_later write more old mid new one (BadFile path cause) h = absurd h
stops_later write more old mid new one (NeedsFetch name) h = absurd h
stops_later write more old mid new one (NoIdentity name) h = absurd h
stops_later write more old mid new one (NoSource uuid) h = absurd h
stops_later write more old mid new one (Unsatisfiable log) h = absurd h
stops_later write more old mid new one (GaveUp log) h = absurd h
stops_later write more old mid new one (ReadFault path) h = absurd h
stops_later write more old mid new one (WriteFault path) h = further write more old mid new path one h
stops_later write more old mid new one (Blocked path) h = record { stopped = further write more old mid new path one h.stopped; blocked = h.blocked }
stops_later write more old mid new one (UnknownName name) h = absurd h
stops_later write more old mid new one (UnknownPackage uuid) h = absurd h
stops_later write more old mid new one (AmbiguousName first second) h = absurd h
stops_later write more old mid new one (Limit kind count) h = absurd h
stops_later write more old mid new one (Differs difference) h = absurd h
stops_later write more old mid new one (NotInProject name) h = absurd h
stops_later write more old mid new one (NotInManifest name) h = absurd h
stops_later write more old mid new one (NotPinned name) h = absurd h
stops_later write more old mid new one (NotAProject path) h = absurd h
stops_later write more old mid new one (NameTaken uuid) h = absurd h
stops_later write more old mid new one (WrongJulia text) h = absurd h
stops_later write more old mid new one (NotBuilt word) h = absurd h
stops_later write more old mid new one Memory h = record { done = write ∷ h.done; rest = h.rest; split = ap (λ l. write ∷ l) h.split; are_written = (mid, one, h.are_written) }
stops_later write more old mid new one SinkFault h = absurd h

pub goes_on : (write : SaidWrite) (more : List SaidWrite) (old mid new : Option Files) → written write.0 write.1 old ≡ Some mid → (answer : Result (Unit {0}) Status) → Replaces more mid new answer
    → Replaces (write ∷ more) old new answer
goes_on write more old mid new one (Ok it) h = (mid, one, h)
goes_on write more old mid new one (Err status) h = stops_later write more old mid new one status h

-- a store that tells no files tells none after any are replaced
pub untold_after : (writes : List SaidWrite) (new : Option Files) → AreWritten writes None new → new ≡ None
untold_after [] new h = h
untold_after (write ∷ more) new (None, one, h) = untold_after more new h
untold_after (write ∷ more) new (Some files, one, h) = absurd (some_is_none write files one)
  where
    some_is_none : (write : SaidWrite) (files : Files) → written write.0 write.1 None ≡ Some (Some files) → ⊥
    some_is_none write files same = grind arith

untold_if : (writes : List SaidWrite) (new : Option Files) (status : Status) → Stops writes None new status → new ≡ None
untold_if writes new StatusOk h = absurd h
untold_if writes new (BadWords word) h = absurd h
untold_if writes new (MissingFile path) h = absurd h
untold_if writes new (BadFile path cause) h = absurd h
untold_if writes new (NeedsFetch name) h = absurd h
untold_if writes new (NoIdentity name) h = absurd h
untold_if writes new (NoSource uuid) h = absurd h
untold_if writes new (Unsatisfiable log) h = absurd h
untold_if writes new (GaveUp log) h = absurd h
untold_if writes new (ReadFault path) h = absurd h
untold_if writes new (WriteFault path) h = untold_after h.done new h.are_written
untold_if writes new (Blocked path) h = untold_after h.stopped.done new h.stopped.are_written
untold_if writes new (UnknownName name) h = absurd h
untold_if writes new (UnknownPackage uuid) h = absurd h
untold_if writes new (AmbiguousName first second) h = absurd h
untold_if writes new (Limit kind count) h = absurd h
untold_if writes new (Differs difference) h = absurd h
untold_if writes new (NotInProject name) h = absurd h
untold_if writes new (NotInManifest name) h = absurd h
untold_if writes new (NotPinned name) h = absurd h
untold_if writes new (NotAProject path) h = absurd h
untold_if writes new (NameTaken uuid) h = absurd h
untold_if writes new (WrongJulia text) h = absurd h
untold_if writes new (NotBuilt word) h = absurd h
untold_if writes new Memory h = untold_after h.done new h.are_written
untold_if writes new SinkFault h = absurd h

untold_of : (writes : List SaidWrite) (new : Option Files) (answer : Result (Unit {0}) Status) → Replaces writes None new answer → new ≡ None
untold_of writes new (Ok it) h = untold_after writes new h
untold_of writes new (Err status) h = untold_if writes new status h

pub untold : (writes : List SaidWrite) (old new : Option Files) (answer : Result (Unit {0}) Status) → Replaces writes old new answer → old ≡ None → new ≡ None
untold writes old new answer h none = untold_of writes new answer (subst (λ files. Replaces writes files new answer) none h)

-- ---- the next file of a list

-- how the rest is replaced from here is how all are from the start
abbrev pub Onward : List SaidWrite → Option Files → List SaidWrite → Option Files → Type 0
Onward all first rest here = (new : Option Files) (answer : Result (Unit {0}) Status) → Replaces rest here new answer → Replaces all first new answer

pub next_done : (all : List SaidWrite) (first here mid : Option Files) (rest more : List Write) (next : Write) → rest ≡ next ∷ more → Onward all first (map said_write rest) here
    → ReplacesOne (said_write next) here mid (Ok tt) → Onward all first (map said_write more) mid
next_done all first here mid rest more next split onward one new answer h =
    onward new answer (subst (λ l. Replaces (map said_write l) here new answer) (sym split) (goes_on (said_write next) (map said_write more) here mid new one answer h))

pub next_stops : (all : List SaidWrite) (first here new : Option Files) (rest more : List Write) (next : Write) (status : Status) → rest ≡ next ∷ more → Onward all first (map said_write rest) here
    → ReplacesOne (said_write next) here new (Err status) → Replaces all first new (Err status)
next_stops all first here new rest more next status split onward one =
    onward new (Err status) (subst (λ l. Replaces (map said_write l) here new (Err status)) (sym split) (stops_first (said_write next) (map said_write more) here new status one))
