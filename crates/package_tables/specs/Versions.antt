-- What the steps of reading versions cite: the versions so far stand in a map.
use Rattle.std.specs.Prelude.{ℕ, List, Some, None, Result, if◌then◌else◌, is_some}
use Rattle.std.specs.BTreeMap.{is_at}
use Rattle.std.specs.Map.{lookup}
use Rattle.toml.specs.Data.{Data}
use Rattle.jl_versions.specs.Meant.{version_meant}
use Rattle.jl_versions.specs.Order.{version_cmp}
use Rattle.jl_versions.specs.declared.version.Version.{Version}
use Rattle.toml_view.specs.Reading.{or_shape, or_version, chained, mapped}
use Rattle.toml_view.specs.declared.refusal.Refusal.{Refusal}
use Rattle.package_tables.specs.Sections.{mark_of}
use Rattle.package_tables.specs.declared.versions.Mark.{Mark}

-- a version that isn't among the entries
abbrev pub fresh : List (Version × Mark) → Version → Result Version Refusal
fresh entries v = or_shape (if is_some (lookup (is_at (version_cmp v)) entries) then None else Some v)

abbrev pub marked_after : List (Version × Mark) → List ℕ → Data → Result (Version × Mark) Refusal
marked_after entries key value = chained (λ v. mapped (λ mark. (v, mark)) (mark_of value)) (chained (fresh entries) (or_version (version_meant key)))
