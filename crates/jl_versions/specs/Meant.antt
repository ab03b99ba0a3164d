-- What a version text means, as a function of the text. It is the grammar's meaning, a version exactly where `Reads` has
-- it and else the first bad place: the law `meaning_is_the_grammars`.
use Rattle.std.specs.Prelude.{◌≡◌, ℕ, List, Result, Err}
use Rattle.jl_versions.specs.Machine.{meant_by}
use Rattle.jl_versions.specs.Stages.{step, finish}
use Rattle.jl_versions.specs.declared.reader.Stage.TheVariants.{Fresh}
use Rattle.jl_versions.specs.declared.version.Version.{Version}
use Rattle.jl_versions.specs.declared.fault.VersionFault.{VersionFault}
use Rattle.jl_versions.specs.declared.fault.VersionFault.TheVariants.{BadVersion, Memory}

-- the version of a text, or the length of its longest front that begins a version text
unfoldable pub version_meant : List ℕ → Result Version ℕ
version_meant text = meant_by step finish Fresh text

-- a refusal carries that place; want of memory tells nothing
abbrev pub RefusesAt : Result Version ℕ → VersionFault → Type 0
RefusesAt meant (BadVersion place) = meant ≡ Err place
RefusesAt meant Memory = Unit {0}
