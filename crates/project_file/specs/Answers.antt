-- What each answer of the crate's calls tells.
use Rattle.std.specs.Prelude.{◌≡◌, Option, Some, None, Result, Ok, Err, MatchResult}
use Rattle.pkg_world.specs.declared.cause.Cause.{Cause}
use Rattle.pkg_world.specs.declared.cause.Cause.TheVariants as causes
use Rattle.toml_view.specs.declared.refusal.Refusal.{Refusal}
use Rattle.toml_view.specs.declared.refusal.Stop.{Stop}
use Rattle.toml_view.specs.declared.refusal.Stop.TheVariants as stops
use Rattle.toml_view.specs.declared.document.ViewFault.{ViewFault}
use Rattle.toml_view.specs.declared.document.ViewFault.TheVariants as views
use Rattle.toml_view.specs.Causes.{cause_of}
use Rattle.toml_view.specs.Answers.{Refuses as StopRefuses}
use Rattle.project_file.specs.declared.fault.ProjectFault.{ProjectFault}
use Rattle.project_file.specs.declared.fault.ProjectFault.TheVariants.{BadToml, Deep, BadShape, BadVersion, BadSpec, Memory}

-- the cause that a fault names; want of memory names none
abbrev pub cause_named : ProjectFault → Option Cause
cause_named BadToml = Some causes.BadToml
cause_named Deep = Some causes.Deep
cause_named (BadShape path) = Some (causes.BadShape path)
cause_named (BadVersion path place) = Some (causes.BadVersion path place)
cause_named (BadSpec path place) = Some (causes.BadSpec path place)
cause_named Memory = None

-- what the answer to a reading of a table's keys tells
abbrev pub Gives : {T : Type 0} → Result T Stop → Result T Refusal → Type 0
Gives answer reading = MatchResult answer (λ value. reading ≡ Ok value) (λ stop. StopRefuses stop reading)

-- what a fault says of the reading; want of memory tells nothing
abbrev pub Refuses : {T : Type 0} → Result T Cause → ProjectFault → Type 0
Refuses reading BadToml = reading ≡ Err causes.BadToml
Refuses reading Deep = reading ≡ Err causes.Deep
Refuses reading (BadShape path) = reading ≡ Err (causes.BadShape path)
Refuses reading (BadVersion path place) = reading ≡ Err (causes.BadVersion path place)
Refuses reading (BadSpec path place) = reading ≡ Err (causes.BadSpec path place)
Refuses reading Memory = Unit {0}

-- the fault of bytes without a table
abbrev pub IsUnviewed : ViewFault → ProjectFault → Type 0
IsUnviewed views.BadToml fault = fault ≡ BadToml
IsUnviewed views.Deep fault = fault ≡ Deep
IsUnviewed views.Memory fault = fault ≡ Memory

-- the fault of a stopped reading
abbrev pub IsFaultOf : Stop → ProjectFault → Type 0
IsFaultOf (stops.Refused refusal) fault = cause_named fault ≡ Some (cause_of refusal)
IsFaultOf stops.Memory fault = fault ≡ Memory
