-- Why the bytes of a file are refused: no table, or the first refusal of the table's reading.
use Rattle.std.specs.Prelude.{◌≡◌, ℕ, List, [], Result, Ok, Err, MatchResult}
use Rattle.std.specs.Option.{unwrap_or}
use Rattle.toml.specs.Data.{Members}
use Rattle.pkg_world.specs.declared.cause.Cause.{Cause}
use Rattle.pkg_world.specs.declared.cause.Cause.TheVariants.{BadToml, Deep, BadShape, BadVersion, BadSpec}
use Rattle.toml_view.specs.Document.{ViewRefusal, bad_toml, deep}
use Rattle.toml_view.specs.declared.document.ViewFault.{ViewFault}
use Rattle.toml_view.specs.declared.document.ViewFault.TheVariants.{BadToml as ViewBadToml, Deep as ViewDeep, Memory as ViewMemory}
use Rattle.toml_view.specs.declared.halt.Halt.{Halt}
use Rattle.toml_view.specs.declared.halt.Halt.TheVariants.{Refused, Memory as HaltMemory}
use Rattle.toml_view.specs.declared.refusal.Flaw.{Flaw}
use Rattle.toml_view.specs.declared.refusal.Flaw.TheVariants.{Shape, Version, Spec}
use Rattle.toml_view.specs.declared.refusal.Refusal.{Refusal}
use Rattle.toml_view.specs.declared.refusal.Stop.{Stop}
use Rattle.toml_view.specs.declared.refusal.Stop.TheVariants.{Refused as StopRefused, Memory as StopMemory}

-- what is wrong at a key path
abbrev pub cause_at : List ℕ → Flaw → Cause
cause_at path Shape = BadShape path
cause_at path (Version place) = BadVersion path place
cause_at path (Spec place) = BadSpec path place

-- the cause of a refused key
abbrev pub cause_of : Refusal → Cause
cause_of refusal = cause_at (unwrap_or refusal.path []) refusal.flaw

abbrev pub caused : {T : Type 0} → Result T Refusal → Result T Cause
caused (Ok value) = Ok value
caused (Err refusal) = Err (cause_of refusal)

-- what a table's reading makes of a file's bytes
abbrev pub of_view : {T : Type 0} → (Members → Result T Refusal) → Result Members ViewRefusal → Result T Cause
of_view read (Ok members) = caused (read members)
of_view read (Err bad_toml) = Err BadToml
of_view read (Err deep) = Err Deep

-- one reading of a file's bytes and then the next: the first cause counts
abbrev pub then_read : {S T : Type 0} → Result S Cause → (S → Result T Cause) → Result T Cause
then_read (Ok value) next = next value
then_read (Err cause) next = Err cause

-- what a halted reading of a file's bytes tells; want of memory tells nothing
abbrev pub Halts : {T : Type 0} → Result T Cause → Halt → Type 0
Halts reading (Refused cause) = reading ≡ Err cause
Halts reading HaltMemory = Unit {0}

abbrev pub Reads : {T : Type 0} → Result T Halt → Result T Cause → Type 0
Reads answer reading = MatchResult answer (λ value. reading ≡ Ok value) (Halts reading)

-- the cause that a stopped reading of a table has
abbrev pub HaltsAs : Stop → Halt → Type 0
HaltsAs (StopRefused refusal) halt = halt ≡ Refused (cause_of refusal)
HaltsAs StopMemory halt = halt ≡ HaltMemory

-- the cause that bytes without a table have
abbrev pub HaltsView : ViewFault → Halt → Type 0
HaltsView ViewBadToml halt = halt ≡ Refused BadToml
HaltsView ViewDeep halt = halt ≡ Refused Deep
HaltsView ViewMemory halt = halt ≡ HaltMemory
