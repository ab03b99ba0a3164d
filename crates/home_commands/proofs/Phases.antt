-- A refusal of a first phase is that of the whole answer.
use Rattle.std.proofs.Common.{Option, Some, None, IfSome, Result, ap}
use Rattle.command_answers.specs.declared.status.Status.{Status}
use Rattle.command_answers.specs.declared.status.Status.TheVariants.{Ok as StatusOk, BadWords, MissingFile, BadFile, NeedsFetch, NoIdentity, NoSource, Unsatisfiable, GaveUp, ReadFault, WriteFault, Blocked, UnknownName, UnknownPackage, AmbiguousName, Limit, Differs, NotInProject, NotInManifest, NotPinned, NotAProject, NameTaken, WrongJulia, NotBuilt, Memory, SinkFault}
use Rattle.command_answers.specs.Answers.{Refuses}
use Rattle.pkg_world.specs.Each.{then_ok}

pub refused_then : {S T : Type 0} (phase : Result S Status) (next : S → Result T Status) (status : Status) → Refuses phase status → Refuses (then_ok phase next) status
refused_then phase next StatusOk h = h
refused_then phase next (BadWords word) h = ap (λ r. then_ok r next) h
refused_then phase next (MissingFile path) h = ap (λ r. then_ok r next) h
refused_then phase next (BadFile path cause) h = ap (λ r. then_ok r next) h
refused_then phase next (NeedsFetch name) h = ap (λ r. then_ok r next) h
refused_then phase next (NoIdentity name) h = ap (λ r. then_ok r next) h
refused_then phase next (NoSource uuid) h = ap (λ r. then_ok r next) h
refused_then phase next (Unsatisfiable log) h = ap (λ r. then_ok r next) h
refused_then phase next (GaveUp log) h = ap (λ r. then_ok r next) h
refused_then phase next (ReadFault path) h = tt
refused_then phase next (WriteFault path) h = h
refused_then phase next (Blocked path) h = h
refused_then phase next (UnknownName name) h = ap (λ r. then_ok r next) h
refused_then phase next (UnknownPackage uuid) h = ap (λ r. then_ok r next) h
refused_then phase next (AmbiguousName first second) h = ap (λ r. then_ok r next) h
refused_then phase next (Limit kind count) h = ap (λ r. then_ok r next) h
refused_then phase next (Differs difference) h = ap (λ r. then_ok r next) h
refused_then phase next (NotInProject name) h = ap (λ r. then_ok r next) h
refused_then phase next (NotInManifest name) h = ap (λ r. then_ok r next) h
refused_then phase next (NotPinned name) h = ap (λ r. then_ok r next) h
refused_then phase next (NotAProject path) h = ap (λ r. then_ok r next) h
refused_then phase next (NameTaken uuid) h = ap (λ r. then_ok r next) h
refused_then phase next (WrongJulia text) h = ap (λ r. then_ok r next) h
refused_then phase next (NotBuilt word) h = ap (λ r. then_ok r next) h
refused_then phase next Memory h = tt
refused_then phase next SinkFault h = h

-- the same where files are told
pub over_files : {A S T : Type 0} (told : Option A) (phase : A → Result S Status) (next : A → S → Result T Status) (status : Status)
    → IfSome told (λ all. Refuses (phase all) status) → IfSome told (λ all. Refuses (then_ok (phase all) (next all)) status)
over_files None phase next status h = tt
over_files (Some all) phase next status h = refused_then (phase all) (next all) status h
