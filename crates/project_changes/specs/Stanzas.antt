-- What becomes of a manifest by `pin`, and what `free` takes away. (Pkg, `pin` and `free`; own rules.)
--     with_pin manifest name version          the manifest in which the stanza of the name is pinned, or the refusal
--     freed project manifest name             what is taken away for the name, or the refusal
--     without_mark manifest place             the manifest in which the stanza at this place isn't pinned
use Rattle.std.specs.Prelude.{ℕ, ◌<◌, Bool, true, false, not, ◌||◌, if◌then◌else◌, List, Option, Some, None, slice_set, Result, Ok, Err}
use Rattle.std.specs.List.{slice_get}
use Rattle.std.specs.Option.{option_or}
use Rattle.jl_versions.specs.declared.version.Version.{Version}
use Rattle.pkg_world.specs.Each.{then_ok}
use Rattle.project_file.specs.Said as project
use Rattle.project_file.specs.Edits.{has_name}
use Rattle.manifest_file.specs.Saying as manifest
use Rattle.manifest_file.specs.Saying.{SaidStanza}
use Rattle.manifest_file.specs.declared.origin.Origin.{Origin}
use Rattle.manifest_file.specs.declared.origin.Origin.TheVariants.{Tree, Path, Repo, Std}
use Rattle.offer_terms.specs.Offered.{Text}
use Rattle.package_names.specs.Stanzas.{stanza_at}
use Rattle.project_changes.specs.Refusals.{ChangeRefusal, of_stanza, not_in_manifest, not_pinned}
use Rattle.project_changes.specs.declared.freeing.Freed.{Freed}
use Rattle.project_changes.specs.declared.freeing.Freed.TheVariants.{Mark, Origin as FreedOrigin}

abbrev pub with_mark : Bool → Option Version → SaidStanza → SaidStanza
with_mark pinned version stanza = record {
  name = stanza.name;
  uuid = stanza.uuid;
  version = version;
  origin = stanza.origin;
  pinned = pinned;
  deps = stanza.deps;
  weakdeps = stanza.weakdeps;
  extensions = stanza.extensions;
}

-- the stanza with the mark, at the version that is given, or else at its own
abbrev pub pinned : Option Version → SaidStanza → SaidStanza
pinned given stanza = with_mark true (option_or given stanza.version) stanza

abbrev pub unpinned : SaidStanza → SaidStanza
unpinned stanza = with_mark false stanza.version stanza

abbrev pub put_at : (SaidStanza → SaidStanza) → ℕ → List SaidStanza → Option SaidStanza → List SaidStanza
put_at change place stanzas None = stanzas
put_at change place stanzas (Some stanza) = slice_set stanzas place (change stanza)

-- the manifest in which the stanza at the place is changed
abbrev pub changed_at : (SaidStanza → SaidStanza) → ℕ → manifest.Said → manifest.Said
changed_at change place found = record { julia_version = found.julia_version; stanzas = put_at change place found.stanzas (slice_get found.stanzas place) }

abbrev pub with_pin : manifest.Said → Text → Option Version → Result manifest.Said ChangeRefusal
with_pin found name given = then_ok (of_stanza (stanza_at found name)) (λ place. Ok (changed_at (pinned given) place found))

abbrev pub without_mark : manifest.Said → ℕ → manifest.Said
without_mark found place = changed_at unpinned place found

-- an origin that fixes its package
abbrev pub fixes : Origin → Bool
fixes (Tree tree) = false
fixes (Path text) = true
fixes (Repo url rev subdir tree) = true
fixes Std = false

-- without a mark the origin is taken away; that of a name with a source is the project's, and can't be
abbrev pub freed_origin : project.Said → Text → SaidStanza → Result Freed ChangeRefusal
freed_origin said name stanza = if has_name name said.sources || not (fixes stanza.origin) then Err (not_pinned name) else Ok (FreedOrigin stanza.uuid)

abbrev pub freed_of : project.Said → Text → ℕ → Option SaidStanza → Result Freed ChangeRefusal
freed_of said name place None = Err (not_in_manifest name)
freed_of said name place (Some stanza) = if stanza.pinned then Ok (Mark place) else freed_origin said name stanza

abbrev pub freed : project.Said → manifest.Said → Text → Result Freed ChangeRefusal
freed said found name = then_ok (of_stanza (stanza_at found name)) (λ place. freed_of said name place (slice_get found.stanzas place))

-- the mark of one of so many stanzas
abbrev pub IsWithin : ℕ → Freed → Type 0
IsWithin count (Mark place) = place < count
IsWithin count (FreedOrigin id) = Unit {0}
