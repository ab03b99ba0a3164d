-- A table with values put at keys, in the order of the keys.
use Rattle.std.specs.Prelude.{◌≡◌, ℕ, true, ◌≤◌, List, codes, Option, Some, None, IfSome, Result, Ok}
use Rattle.std.specs.Ordering.{nat_cmp, match_ordering}
use Rattle.std.specs.Cmp.Lexicographic.{slice_cmp}
use Rattle.toml.specs.Data.{Data, depth, has_valid_dates, Members, no_members, member}
use Rattle.jl_versions.specs.declared.version.Version.{Version}
use Rattle.toml_view.specs.Reading.{mapped, opt_at, or_empty, table_of, text_of, uuid_of, texts_of, version_at}
use Rattle.toml_view.specs.declared.refusal.Refusal.{Refusal}
use Rattle.project_file.specs.Spelled.{Spelled, spec_of}
use Rattle.project_file.specs.Places.{source_of}
use Rattle.project_file.specs.declared.source.Source.{Source}

-- the members with a value put at a key, in the place of the one that is there
abbrev pub put : List ℕ → Data → Members → Members
put key value no_members = member key value no_members
put key value (member k v more) = match_ordering (slice_cmp nat_cmp key k) (member key value (member k v more)) (member k value more) (member k v (put key value more))

abbrev pub put_some : List ℕ → Option Data → Members → Members
put_some key None members = members
put_some key (Some value) members = put key value members

-- what stands at a key that may be absent, an absent table being empty
abbrev pub each_at : {T : Type 0} → (Data → Result T Refusal) → List ℕ → Option Data → Result (List (List ℕ × T)) Refusal
each_at read key value = mapped or_empty (opt_at (table_of read) key value)

-- new is old with a value at the key, or without one, that reads as what is said, nests two deep at most, and has no date
-- without a text
pub record Puts {T : Type 0} (read : Option Data → Result T Refusal) (key : List ℕ) (meant : T) (old new : Members) : Type 0 where
  pub value : Option Data
  pub reads : read value ≡ Ok meant
  pub flat : IfSome value (λ v. depth v ≤ 2)
  pub dated : IfSome value (λ v. has_valid_dates v ≡ true)
  pub put_there : new ≡ put_some key value old

-- a project's keys from `uuid` on, the last one first
pub record PutsBack (uuid : Option (List ℕ)) (version : Option Version) (weakdeps : List (List ℕ × List ℕ)) (old new : Members) : Type 0 where
  pub after_weakdeps : Members
  pub after_version : Members
  pub weakdeps_put : Puts (each_at uuid_of (codes "weakdeps")) (codes "weakdeps") weakdeps old after_weakdeps
  pub version_put : Puts (opt_at version_at (codes "version")) (codes "version") version after_weakdeps after_version
  pub uuid_put : Puts (opt_at uuid_of (codes "uuid")) (codes "uuid") uuid after_version new

-- those from `manifest` to `sources`
pub record PutsMiddle (manifest name : Option (List ℕ)) (sources : List (List ℕ × Source)) (old new : Members) : Type 0 where
  pub after_sources : Members
  pub after_name : Members
  pub sources_put : Puts (each_at source_of (codes "sources")) (codes "sources") sources old after_sources
  pub name_put : Puts (opt_at text_of (codes "name")) (codes "name") name after_sources after_name
  pub manifest_put : Puts (opt_at text_of (codes "manifest")) (codes "manifest") manifest after_name new

-- those before `manifest`
pub record PutsFront (compat : List (List ℕ × Spelled)) (deps : List (List ℕ × List ℕ)) (extensions : List (List ℕ × List (List ℕ))) (extras : List (List ℕ × List ℕ)) (old new : Members) : Type 0 where
  pub after_extras : Members
  pub after_extensions : Members
  pub after_deps : Members
  pub extras_put : Puts (each_at uuid_of (codes "extras")) (codes "extras") extras old after_extras
  pub extensions_put : Puts (each_at texts_of (codes "extensions")) (codes "extensions") extensions after_extras after_extensions
  pub deps_put : Puts (each_at uuid_of (codes "deps")) (codes "deps") deps after_extensions after_deps
  pub compat_put : Puts (each_at spec_of (codes "compat")) (codes "compat") compat after_deps new
