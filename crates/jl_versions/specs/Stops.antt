-- Where the machine of Stages stops in a text.
use Rattle.std.specs.Prelude.{◌≡◌, ℕ, ◌<◌, List, length, take, None, Some, Result, Ok, Err, ◌⊎◌, slice_index}
use Rattle.jl_versions.specs.Machine.{run}
use Rattle.jl_versions.specs.Stages.{step, finish}
use Rattle.jl_versions.specs.declared.reader.Stage.{Stage}
use Rattle.jl_versions.specs.declared.reader.Stage.TheVariants.{Fresh}
use Rattle.jl_versions.specs.declared.version.Version.{Version}
use Rattle.jl_versions.specs.declared.fault.VersionFault.{VersionFault}
use Rattle.jl_versions.specs.declared.fault.VersionFault.TheVariants.{BadVersion, Memory}

-- the machine goes through the bytes before the place, and no further
pub record IsStop (bytes : List ℕ) (place : ℕ) : Type 0 where
  pub inside : place < length bytes
  pub stage : Stage
  pub stands : run step Fresh (take place bytes) ≡ Some stage
  pub stops : step stage (slice_index bytes place) ≡ None

-- the machine goes through all bytes, and they mean no version
pub record IsOpenEnd (bytes : List ℕ) (place : ℕ) : Type 0 where
  pub at_end : place ≡ length bytes
  pub stage : Stage
  pub stands : run step Fresh bytes ≡ Some stage
  pub unended : finish stage ≡ None

abbrev pub StopsAt : List ℕ → VersionFault → Type 0
StopsAt bytes (BadVersion place) = IsStop bytes place
StopsAt bytes Memory = Unit {0}

-- what the machine says of the bytes
abbrev pub Tells : List ℕ → Result Version VersionFault → Type 0
Tells bytes (Ok v) = (stage : Stage) × (run step Fresh bytes ≡ Some stage) × (finish stage ≡ Some v)
Tells bytes (Err (BadVersion place)) = IsStop bytes place ⊎ IsOpenEnd bytes place
Tells bytes (Err Memory) = Unit {0}
