-- Refusals before anything is replaced or printed, and what is due by two relations.
use Rattle.std.proofs.Common.{ℕ, Result, Ok, Err}
use Rattle.command_answers.specs.declared.ending.Ending.{Ending}
use Rattle.command_answers.specs.declared.status.Status.{Status}
use Rattle.command_answers.specs.declared.status.Status.TheVariants.{Ok as StatusOk, BadWords, MissingFile, BadFile, NeedsFetch, NoIdentity, NoSource, Unsatisfiable, GaveUp, ReadFault, WriteFault, Blocked, UnknownName, UnknownPackage, AmbiguousName, Limit, Differs, NotInProject, NotInManifest, NotPinned, NotAProject, NameTaken, WrongJulia, NotBuilt, Memory, SinkFault}
use Rattle.command_answers.specs.Answers.{IsRefusal, IsUnprinted, WriteFaultRose, SinkFaultRose}
use Rattle.command_answers.specs.Endings.{SaidEnding, said_ending, RefusesBy, EndsBy}

pub unprinted_refusal : (status : Status) → IsUnprinted status → IsRefusal status
unprinted_refusal StatusOk h = h
unprinted_refusal (BadWords word) h = tt
unprinted_refusal (MissingFile path) h = tt
unprinted_refusal (BadFile path cause) h = tt
unprinted_refusal (NeedsFetch name) h = tt
unprinted_refusal (NoIdentity name) h = tt
unprinted_refusal (NoSource uuid) h = tt
unprinted_refusal (Unsatisfiable log) h = tt
unprinted_refusal (GaveUp log) h = tt
unprinted_refusal (ReadFault path) h = tt
unprinted_refusal (WriteFault path) h = tt
unprinted_refusal (Blocked path) h = tt
unprinted_refusal (UnknownName name) h = tt
unprinted_refusal (UnknownPackage uuid) h = tt
unprinted_refusal (AmbiguousName first second) h = tt
unprinted_refusal (Limit kind count) h = tt
unprinted_refusal (Differs difference) h = tt
unprinted_refusal (NotInProject name) h = tt
unprinted_refusal (NotInManifest name) h = tt
unprinted_refusal (NotPinned name) h = tt
unprinted_refusal (NotAProject path) h = tt
unprinted_refusal (NameTaken uuid) h = tt
unprinted_refusal (WrongJulia text) h = tt
unprinted_refusal (NotBuilt word) h = tt
unprinted_refusal Memory h = tt
unprinted_refusal SinkFault h = tt

pub unprinted_write : (before now : ℕ) (status : Status) → IsUnprinted status → WriteFaultRose before now status
unprinted_write before now StatusOk h = tt
unprinted_write before now (BadWords word) h = tt
unprinted_write before now (MissingFile path) h = tt
unprinted_write before now (BadFile path cause) h = tt
unprinted_write before now (NeedsFetch name) h = tt
unprinted_write before now (NoIdentity name) h = tt
unprinted_write before now (NoSource uuid) h = tt
unprinted_write before now (Unsatisfiable log) h = tt
unprinted_write before now (GaveUp log) h = tt
unprinted_write before now (ReadFault path) h = tt
unprinted_write before now (WriteFault path) h = absurd h
unprinted_write before now (Blocked path) h = tt
unprinted_write before now (UnknownName name) h = tt
unprinted_write before now (UnknownPackage uuid) h = tt
unprinted_write before now (AmbiguousName first second) h = tt
unprinted_write before now (Limit kind count) h = tt
unprinted_write before now (Differs difference) h = tt
unprinted_write before now (NotInProject name) h = tt
unprinted_write before now (NotInManifest name) h = tt
unprinted_write before now (NotPinned name) h = tt
unprinted_write before now (NotAProject path) h = tt
unprinted_write before now (NameTaken uuid) h = tt
unprinted_write before now (WrongJulia text) h = tt
unprinted_write before now (NotBuilt word) h = tt
unprinted_write before now Memory h = tt
unprinted_write before now SinkFault h = tt

pub unprinted_sink : (before now : ℕ) (status : Status) → IsUnprinted status → SinkFaultRose before now status
unprinted_sink before now StatusOk h = tt
unprinted_sink before now (BadWords word) h = tt
unprinted_sink before now (MissingFile path) h = tt
unprinted_sink before now (BadFile path cause) h = tt
unprinted_sink before now (NeedsFetch name) h = tt
unprinted_sink before now (NoIdentity name) h = tt
unprinted_sink before now (NoSource uuid) h = tt
unprinted_sink before now (Unsatisfiable log) h = tt
unprinted_sink before now (GaveUp log) h = tt
unprinted_sink before now (ReadFault path) h = tt
unprinted_sink before now (WriteFault path) h = tt
unprinted_sink before now (Blocked path) h = tt
unprinted_sink before now (UnknownName name) h = tt
unprinted_sink before now (UnknownPackage uuid) h = tt
unprinted_sink before now (AmbiguousName first second) h = tt
unprinted_sink before now (Limit kind count) h = tt
unprinted_sink before now (Differs difference) h = tt
unprinted_sink before now (NotInProject name) h = tt
unprinted_sink before now (NotInManifest name) h = tt
unprinted_sink before now (NotPinned name) h = tt
unprinted_sink before now (NotAProject path) h = tt
unprinted_sink before now (NameTaken uuid) h = tt
unprinted_sink before now (WrongJulia text) h = tt
unprinted_sink before now (NotBuilt word) h = tt
unprinted_sink before now Memory h = tt
unprinted_sink before now SinkFault h = absurd h

-- a refusal that is due by one relation is due by another
pub refuses_as : {S T : Type 0} (One : Result S Status → Type 0) (Other : Result T Status → Type 0) → ((status : Status) → One (Err status) → Other (Err status))
    → (status : Status) → RefusesBy One status → RefusesBy Other status
refuses_as One Other is StatusOk h = h
refuses_as One Other is (BadWords word) h = is (BadWords word) h
refuses_as One Other is (MissingFile path) h = is (MissingFile path) h
refuses_as One Other is (BadFile path cause) h = is (BadFile path cause) h
refuses_as One Other is (NeedsFetch name) h = is (NeedsFetch name) h
refuses_as One Other is (NoIdentity name) h = is (NoIdentity name) h
refuses_as One Other is (NoSource uuid) h = is (NoSource uuid) h
refuses_as One Other is (Unsatisfiable log) h = is (Unsatisfiable log) h
refuses_as One Other is (GaveUp log) h = is (GaveUp log) h
refuses_as One Other is (ReadFault path) h = tt
refuses_as One Other is (WriteFault path) h = h
refuses_as One Other is (Blocked path) h = h
refuses_as One Other is (UnknownName name) h = is (UnknownName name) h
refuses_as One Other is (UnknownPackage uuid) h = is (UnknownPackage uuid) h
refuses_as One Other is (AmbiguousName first second) h = is (AmbiguousName first second) h
refuses_as One Other is (Limit kind count) h = is (Limit kind count) h
refuses_as One Other is (Differs difference) h = is (Differs difference) h
refuses_as One Other is (NotInProject name) h = is (NotInProject name) h
refuses_as One Other is (NotInManifest name) h = is (NotInManifest name) h
refuses_as One Other is (NotPinned name) h = is (NotPinned name) h
refuses_as One Other is (NotAProject path) h = is (NotAProject path) h
refuses_as One Other is (NameTaken uuid) h = is (NameTaken uuid) h
refuses_as One Other is (WrongJulia text) h = is (WrongJulia text) h
refuses_as One Other is (NotBuilt word) h = is (NotBuilt word) h
refuses_as One Other is Memory h = tt
refuses_as One Other is SinkFault h = h

-- an ending that is due by one relation is due by another
pub ends_as : (One Other : Result SaidEnding Status → Type 0) → ((answer : Result SaidEnding Status) → One answer → Other answer) → (answer : Result Ending Status)
    → EndsBy One answer → EndsBy Other answer
ends_as One Other is (Ok it) h = is (Ok (said_ending it)) h
ends_as One Other is (Err status) h = refuses_as One Other (λ refusal. is (Err refusal)) status h
