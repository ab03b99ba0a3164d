-- What the steps of reading a manifest cite.
use Rattle.std.specs.Prelude.{◌≡◌, ℕ, Bool, List, ◌++◌, map, Option, Some, None, Result, Ok, Err, MatchResult}
use Rattle.std.specs.BTreeSet.{BTreeSet, contains}
use Rattle.std.specs.Ordering.{nat_cmp}
use Rattle.std.specs.Cmp.Lexicographic.{slice_cmp}
use Rattle.pkg_world.specs.declared.cause.Cause.{Cause}
use Rattle.pkg_world.specs.declared.cause.Cause.TheVariants.{BadToml, Deep, BadShape, BadVersion, SameUuid, Dangling, Unclear}
use Rattle.toml_view.specs.declared.refusal.Stop.{Stop}
use Rattle.toml_view.specs.declared.refusal.Stop.TheVariants.{Refused, Memory as StopMemory}
use Rattle.toml_view.specs.declared.document.ViewFault.{ViewFault}
use Rattle.toml_view.specs.declared.document.ViewFault.TheVariants.{BadToml as ViewBadToml, Deep as ViewDeep, Memory as ViewMemory}
use Rattle.manifest_file.specs.Saying.{SaidStanza, cause_of}
use Rattle.manifest_file.specs.Said.{said_stanza}
use Rattle.manifest_file.specs.declared.fault.ManifestFault.{ManifestFault}
use Rattle.manifest_file.specs.declared.fault.ManifestFault.TheVariants.{BadToml as TomlFault, Deep as DeepFault, BadShape as ShapeFault, BadVersion as VersionFault, SameUuid as SameFault, Dangling as DanglingFault, Unclear as UnclearFault, Memory}
use Rattle.manifest_file.specs.declared.stanza.Stanza.{Stanza}

-- what a refusal means; want of memory tells nothing
abbrev pub Refuses : {T : Type 0} → Result T Cause → ManifestFault → Type 0
Refuses reading TomlFault = reading ≡ Err BadToml
Refuses reading DeepFault = reading ≡ Err Deep
Refuses reading (ShapeFault path) = reading ≡ Err (BadShape path)
Refuses reading (VersionFault path place) = reading ≡ Err (BadVersion path place)
Refuses reading (SameFault id) = reading ≡ Err (SameUuid id)
Refuses reading (DanglingFault from name) = reading ≡ Err (Dangling from name)
Refuses reading (UnclearFault from name) = reading ≡ Err (Unclear from name)
Refuses reading Memory = Unit {0}

-- the fault that carries the cause, or want of memory
abbrev pub RefusesAs : Cause → ManifestFault → Type 0
RefusesAs cause TomlFault = cause ≡ BadToml
RefusesAs cause DeepFault = cause ≡ Deep
RefusesAs cause (ShapeFault path) = cause ≡ BadShape path
RefusesAs cause (VersionFault path place) = cause ≡ BadVersion path place
RefusesAs cause (SameFault id) = cause ≡ SameUuid id
RefusesAs cause (DanglingFault from name) = cause ≡ Dangling from name
RefusesAs cause (UnclearFault from name) = cause ≡ Unclear from name
RefusesAs cause Memory = Unit {0}

-- what is read, or the refusal
abbrev pub Reads : {S T : Type 0} → (S → T) → Result T Cause → Result S ManifestFault → Type 0
Reads seen reading answer = MatchResult answer (λ value. reading ≡ Ok (seen value)) (Refuses reading)

-- whether a set has an identifier
abbrev pub has_id : BTreeSet (List ℕ) → List ℕ → Bool
has_id ids q = contains (slice_cmp nat_cmp) ids q

abbrev pub IsSameFault : Option (List ℕ) → ManifestFault → Type 0
IsSameFault found (SameFault id) = found ≡ Some id
IsSameFault found Memory = Unit {0}
IsSameFault found _ = ⊥

-- the identifier that stands twice
abbrev pub IsFirstSame : Option (List ℕ) → Result (Unit {0}) ManifestFault → Type 0
IsFirstSame found answer = MatchResult answer (λ _. found ≡ None) (IsSameFault found)

-- a reading of the rest, behind what was read
abbrev pub onto : {T : Type 0} → List T → Result (List T) Cause → Result (List T) Cause
onto done (Ok rest) = Ok (done ++ rest)
onto done (Err cause) = Err cause

-- the stanzas with further ones behind them, or the refusal of those
abbrev pub PushesStanzas : List Stanza → List Stanza → Result (List SaidStanza) Cause → Result (Unit {0}) ManifestFault → Type 0
PushesStanzas old new reading answer = MatchResult answer (λ _. onto (map said_stanza old) reading ≡ Ok (map said_stanza new)) (Refuses reading)

-- the fault that a stopped reading of a table becomes
abbrev pub StopFault : Stop → ManifestFault → Type 0
StopFault (Refused refusal) fault = RefusesAs (cause_of refusal) fault
StopFault StopMemory fault = fault ≡ Memory

-- the fault that bytes without a table become
abbrev pub ViewFaultIs : ViewFault → ManifestFault → Type 0
ViewFaultIs ViewBadToml fault = fault ≡ TomlFault
ViewFaultIs ViewDeep fault = fault ≡ DeepFault
ViewFaultIs ViewMemory fault = fault ≡ Memory
