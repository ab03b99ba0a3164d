-- What a manifest's file says of packages (Pkg, Manifest.toml, format 2.0): its stanzas, by the bytes of their names and
-- then as they stand in the file, each listed name resolved to the one stanza that has it.
use Rattle.std.specs.Prelude.{ℕ, Bool, false, ◌||◌, if◌then◌else◌, List, [], ◌∷◌, map, Option, Some, None, unwrap_or, Result, Ok, Err}
use Rattle.std.specs.List.{flat_map}
use Rattle.std.specs.Str.{bytes_eq}
use Rattle.std.specs.Ordering.{nat_cmp}
use Rattle.std.specs.Cmp.Lexicographic.{slice_cmp}
use Rattle.std.specs.FinMap.Entries.{put}
use Rattle.toml.specs.Data.{Members}
use Rattle.toml_view.specs.declared.refusal.Refusal.{Refusal}
use Rattle.toml_view.specs.declared.refusal.Flaw.{Flaw}
use Rattle.toml_view.specs.declared.refusal.Flaw.TheVariants.{Shape, Version as VersionFlaw, Spec as SpecFlaw}
use Rattle.toml_view.specs.Document.{ViewRefusal, bad_toml, deep, viewed}
use Rattle.toml_view.specs.Causes.{then_read}
use Rattle.jl_versions.specs.declared.version.Version.{Version}
use Rattle.pkg_world.specs.declared.cause.Cause.{Cause}
use Rattle.pkg_world.specs.declared.cause.Cause.TheVariants.{BadToml, Deep, BadShape, BadVersion, SameUuid, Dangling, Unclear}
use Rattle.manifest_file.specs.Entries.{file_of}
use Rattle.manifest_file.specs.declared.dependencies.Dependencies.{Dependencies}
use Rattle.manifest_file.specs.declared.dependencies.Dependencies.TheVariants.{Names, Ids}
use Rattle.manifest_file.specs.declared.bearers.Bearers.{Bearers}
use Rattle.manifest_file.specs.declared.bearers.Bearers.TheVariants.{Nobody, One, Several}
use Rattle.manifest_file.specs.declared.entry.Entry.{Entry}
use Rattle.manifest_file.specs.declared.entry.Entries.{Entries}
use Rattle.manifest_file.specs.declared.origin.Origin.{Origin}

pub record SaidStanza : Type 0 where
  pub name : List ℕ
  pub uuid : List ℕ
  pub version : Option Version
  pub origin : Origin
  pub pinned : Bool
  pub deps : List (List ℕ × List ℕ)
  pub weakdeps : List (List ℕ × List ℕ)
  pub extensions : List (List ℕ × List (List ℕ))

pub record Said : Type 0 where
  pub julia_version : Option Version
  pub stanzas : List SaidStanza

-- names with their stanzas
abbrev pub Groups : Type 0
Groups = List (List ℕ × List Entry)

-- the stanzas of a manifest, each with its name
abbrev pub flat : Groups → List (List ℕ × Entry)
flat groups = flat_map (λ group. map (λ entry. (group.0, entry)) group.1) groups

-- the first that an earlier one equals; `has` tells the earlier ones
abbrev pub first_again : (List ℕ → Bool) → List (List ℕ) → Option (List ℕ)
first_again has [] = None
first_again has (id ∷ ids) = if has id then Some id else first_again (λ q. bytes_eq id q || has q) ids

-- the identifiers of the stanzas
abbrev pub uuids_of : Groups → List (List ℕ)
uuids_of groups = flat_map (λ group. map (λ entry. entry.uuid) group.1) groups

-- the identifier of the first stanza whose identifier an earlier one has
abbrev pub first_same : Groups → Option (List ℕ)
first_same groups = first_again (λ q. false) (uuids_of groups)

-- what is read of each, or the first refusal
abbrev pub all_read : {S T : Type 0} → (S → Result T Cause) → List S → Result (List T) Cause
all_read read [] = Ok []
all_read read (x ∷ xs) = then_read (read x) (λ y. then_read (all_read read xs) (λ ys. Ok (y ∷ ys)))

-- the stanzas of a name
abbrev pub stanzas_named : Groups → List ℕ → List Entry
stanzas_named [] name = []
stanzas_named (group ∷ groups) name = if bytes_eq group.0 name then group.1 else stanzas_named groups name

-- what some stanzas make of their common name
abbrev pub bearers_of : List Entry → Bearers
bearers_of [] = Nobody
bearers_of (entry ∷ []) = One entry.uuid
bearers_of (entry ∷ other ∷ more) = Several

-- who bears a name in a manifest
abbrev pub bearers_in : Groups → List ℕ → Bearers
bearers_in groups name = bearers_of (stanzas_named groups name)

-- the identifier of the one stanza that a listed name means
abbrev pub the_one : List ℕ → List ℕ → Bearers → Result (List ℕ) Cause
the_one from name Nobody = Err (Dangling from name)
the_one from name (One id) = Ok id
the_one from name Several = Err (Unclear from name)

abbrev pub listed_id : (List ℕ → Bearers) → List ℕ → List ℕ → Result (List ℕ × List ℕ) Cause
listed_id bearers from name = then_read (the_one from name (bearers name)) (λ id. Ok (name, id))

-- pairs in the order of their names, a name that stands twice once
abbrev pub in_name_order : List (List ℕ × List ℕ) → List (List ℕ × List ℕ)
in_name_order [] = []
in_name_order (pair ∷ pairs) = put (slice_cmp nat_cmp) pair.0 pair.1 (in_name_order pairs)

abbrev pub ids_of_names : (List ℕ → Bearers) → List ℕ → List (List ℕ) → Result (List (List ℕ × List ℕ)) Cause
ids_of_names bearers from names = then_read (all_read (listed_id bearers from) names) (λ pairs. Ok (in_name_order pairs))

-- the dependencies of a stanza with their identifiers
abbrev pub ids_of : (List ℕ → Bearers) → List ℕ → Dependencies → Result (List (List ℕ × List ℕ)) Cause
ids_of bearers from (Names names) = ids_of_names bearers from names
ids_of bearers from (Ids pairs) = Ok pairs

abbrev pub stanza_with : List ℕ → Entry → List (List ℕ × List ℕ) → List (List ℕ × List ℕ) → SaidStanza
stanza_with name entry deps weakdeps = record {
  name = name;
  uuid = entry.uuid;
  version = entry.version;
  origin = entry.origin;
  pinned = entry.pinned;
  deps = deps;
  weakdeps = weakdeps;
  extensions = entry.extensions;
}

-- a stanza with its listed names resolved, those of `deps` before those of `weakdeps`
abbrev pub stanza_of : (List ℕ → Bearers) → List ℕ × Entry → Result SaidStanza Cause
stanza_of bearers entry =
    then_read (ids_of bearers entry.0 entry.1.deps) (λ deps. then_read (ids_of bearers entry.0 entry.1.weakdeps) (λ weak. Ok (stanza_with entry.0 entry.1 deps weak)))

-- the stanzas, where listed names mean those that have them
abbrev pub stanzas_by : (List ℕ → Bearers) → Groups → Result (List SaidStanza) Cause
stanzas_by bearers groups = all_read (stanza_of bearers) (flat groups)

abbrev pub stanzas_of : Groups → Result (List SaidStanza) Cause
stanzas_of groups = stanzas_by (bearers_in groups) groups

-- no identifier may stand twice
abbrev pub unless_same : {T : Type 0} → Option (List ℕ) → Result T Cause → Result T Cause
unless_same None reading = reading
unless_same (Some id) reading = Err (SameUuid id)

-- a file's stanzas with listed names resolved
abbrev pub resolved_names : Entries → Result Said Cause
resolved_names entries = then_read (stanzas_of entries.by_name) (λ stanzas. Ok (record { julia_version = entries.julia_version; stanzas = stanzas }))

abbrev pub resolved : Entries → Result Said Cause
resolved entries = unless_same (first_same entries.by_name) (resolved_names entries)

-- what is wrong at a key path; a manifest has no specifiers
abbrev pub flaw_at : List ℕ → Flaw → Cause
flaw_at path Shape = BadShape path
flaw_at path (VersionFlaw place) = BadVersion path place
flaw_at path (SpecFlaw place) = BadShape path

-- the cause of a refused key
abbrev pub cause_of : Refusal → Cause
cause_of refusal = flaw_at (unwrap_or refusal.path []) refusal.flaw

abbrev pub of_file : Result Entries Refusal → Result Said Cause
of_file (Ok entries) = resolved entries
of_file (Err refusal) = Err (cause_of refusal)

-- what a file's table says
abbrev pub manifest_of : Members → Result Said Cause
manifest_of members = of_file (file_of members)

abbrev pub of_view : Result Members ViewRefusal → Result Said Cause
of_view (Ok members) = manifest_of members
of_view (Err bad_toml) = Err BadToml
of_view (Err deep) = Err Deep

-- what a file's bytes say
abbrev pub read_of : List ℕ → Result Said Cause
read_of bytes = of_view (viewed bytes)
