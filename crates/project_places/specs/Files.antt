-- What the two files of a project say (Pkg, Project.toml and Manifest.toml), by what stands at their paths.
use Rattle.std.specs.Prelude.{◌≡◌, ℕ, List, [], Option, Some, None, option_map, Result, Ok, Err, MatchResult}
use Rattle.pkg_world.specs.Each.{onto}
use Rattle.pkg_world.specs.Path.{Path}
use Rattle.pkg_world.specs.Tree.{Content, file_bytes}
use Rattle.pkg_world.specs.declared.cause.Cause.{Cause}
use Rattle.project_file.specs.Said.{said as said_project}
use Rattle.project_file.specs.Said as project
use Rattle.project_file.specs.Projects.{read_of as project_read}
use Rattle.project_file.specs.declared.project.Project.{Project}
use Rattle.manifest_file.specs.Said.{said as said_manifest}
use Rattle.manifest_file.specs.Saying as manifest
use Rattle.manifest_file.specs.declared.manifest.Manifest.{Manifest}
use Rattle.pkg_world.specs.declared.cause.Cause.TheVariants.{BadToml, Deep, BadShape, BadVersion, SameUuid, Dangling, Unclear}
use Rattle.manifest_file.specs.declared.fault.ManifestFault.{ManifestFault}
use Rattle.manifest_file.specs.declared.fault.ManifestFault.TheVariants as faults
use Rattle.project_places.specs.declared.fault.EnvFault.{EnvFault}
use Rattle.project_places.specs.declared.fault.EnvFault.TheVariants.{ReadFault, BadFile, Memory}

-- what a file gives, or that file and why it is refused
abbrev pub Read : Type 0 → Type 0
Read T = Result T (Path × Cause)

abbrev pub at_file : {T : Type 0} → Path → Result T Cause → Read T
at_file file (Ok value) = Ok value
at_file file (Err cause) = Err (file, cause)

abbrev pub some_of : {T : Type 0} → Result T Cause → Result (Option T) Cause
some_of (Ok value) = Ok (Some value)
some_of (Err cause) = Err cause

abbrev pub project_of_bytes : Option (List ℕ) → Result (Option project.Said) Cause
project_of_bytes None = Ok None
project_of_bytes (Some bytes) = some_of (project_read bytes)

-- what the project file at a path says; None where no file is there
abbrev pub project_in : Content → Result (Option project.Said) Cause
project_in content = project_of_bytes (file_bytes content)

abbrev pub empty_manifest : manifest.Said
empty_manifest = record { julia_version = None; stanzas = [] }

abbrev pub manifest_of_bytes : Option (List ℕ) → Result manifest.Said Cause
manifest_of_bytes None = Ok empty_manifest
manifest_of_bytes (Some bytes) = manifest.read_of bytes

-- what the manifest at a path says; one that isn't there is empty
abbrev pub manifest_in : Content → Result manifest.Said Cause
manifest_in content = manifest_of_bytes (file_bytes content)

-- the file that is refused and why; a failed read and want of memory tell nothing of the files
abbrev pub Refuses : {T : Type 0} → Read T → EnvFault → Type 0
Refuses reading (ReadFault path) = Unit {0}
Refuses reading (BadFile path cause) = reading ≡ Err (path, cause)
Refuses reading Memory = Unit {0}

abbrev pub Loads : {T : Type 0} → Read T → Result T EnvFault → Type 0
Loads reading answer = MatchResult answer (λ value. reading ≡ Ok value) (Refuses reading)

-- what is read was put behind what there was
abbrev pub Adds : {T : Type 0} → Read (List T) → List T → List T → Result (Unit {0}) EnvFault → Type 0
Adds reading old new answer = MatchResult answer (λ _. onto old reading ≡ Ok new) (Refuses (onto old reading))

abbrev pub LoadsProject : Read (Option project.Said) → Result (Option Project) EnvFault → Type 0
LoadsProject reading answer = MatchResult answer (λ found. reading ≡ Ok (option_map said_project found)) (Refuses reading)

abbrev pub LoadsManifest : Read manifest.Said → Result Manifest EnvFault → Type 0
LoadsManifest reading answer = MatchResult answer (λ found. reading ≡ Ok (said_manifest found)) (Refuses reading)

-- the refusal of a file for that cause, or want of memory
abbrev pub RefusesFile : Path → Cause → EnvFault → Type 0
RefusesFile file cause (ReadFault path) = ⊥
RefusesFile file cause (BadFile path why) = (path ≡ file) × (why ≡ cause)
RefusesFile file cause Memory = Unit {0}

-- the refusal for a cause; without one it is want of memory
abbrev pub RefusesBy : Path → Option Cause → EnvFault → Type 0
RefusesBy file None fault = fault ≡ Memory
RefusesBy file (Some cause) fault = RefusesFile file cause fault

-- the cause that a manifest's fault names; want of memory names none
abbrev pub manifest_cause : ManifestFault → Option Cause
manifest_cause faults.BadToml = Some BadToml
manifest_cause faults.Deep = Some Deep
manifest_cause (faults.BadShape keys) = Some (BadShape keys)
manifest_cause (faults.BadVersion keys place) = Some (BadVersion keys place)
manifest_cause (faults.SameUuid id) = Some (SameUuid id)
manifest_cause (faults.Dangling from name) = Some (Dangling from name)
manifest_cause (faults.Unclear from name) = Some (Unclear from name)
manifest_cause faults.Memory = None
