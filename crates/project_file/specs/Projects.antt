-- What project a table means (Pkg, Project.toml): each key may be absent, the first refusal in key order counts, and
-- every key that isn't named is kept as it stands.
--     project_of members   the project of a table's members
--     read_of bytes        the project of a file's bytes
use Rattle.std.specs.Prelude.{ℕ, List, [], ◌∷◌, codes, Option, None, Result, Ok}
use Rattle.toml.specs.Data.{Members}
use Rattle.jl_versions.specs.declared.version.Version.{Version}
use Rattle.pkg_world.specs.declared.cause.Cause.{Cause}
use Rattle.toml_view.specs.Document.{viewed}
use Rattle.toml_view.specs.Causes.{of_view}
use Rattle.toml_view.specs.KeyOrder.{in_key_order, verdict}
use Rattle.toml_view.specs.Reading.{uuid_of, texts_of, version_at, opt, table_at}
use Rattle.toml_view.specs.declared.refusal.Refusal.{Refusal}
use Rattle.project_file.specs.declared.source.Source.{Source}
use Rattle.project_file.specs.Spelled.{Spelled, spec_of}
use Rattle.project_file.specs.Places.{read_or, text_in, source_of}
use Rattle.project_file.specs.Keys.{unnamed}
use Rattle.project_file.specs.Said.{Said}

-- the package's own identifier and version
abbrev pub uuid_in : Members → Result (Option (List ℕ)) Refusal
uuid_in members = opt uuid_of (codes "uuid") members

abbrev pub version_in : Members → Result (Option Version) Refusal
version_in members = opt version_at (codes "version") members

-- names to identifiers
abbrev pub ids_in : List ℕ → Members → Result (List (List ℕ × List ℕ)) Refusal
ids_in key members = table_at uuid_of key members

-- an extension has one trigger, or a list of them
abbrev pub extensions_in : Members → Result (List (List ℕ × List (List ℕ))) Refusal
extensions_in members = table_at texts_of (codes "extensions") members

abbrev pub compat_in : Members → Result (List (List ℕ × Spelled)) Refusal
compat_in members = table_at spec_of (codes "compat") members

abbrev pub sources_in : Members → Result (List (List ℕ × Source)) Refusal
sources_in members = table_at source_of (codes "sources") members

-- what each key means, where none is refused
abbrev pub built : Members → Said
built members =
    record {
      name = read_or None (text_in (codes "name") members);
      uuid = read_or None (uuid_in members);
      version = read_or None (version_in members);
      deps = read_or [] (ids_in (codes "deps") members);
      weakdeps = read_or [] (ids_in (codes "weakdeps") members);
      extensions = read_or [] (extensions_in members);
      compat = read_or [] (compat_in members);
      extras = read_or [] (ids_in (codes "extras") members);
      sources = read_or [] (sources_in members);
      manifest = read_or None (text_in (codes "manifest") members);
      rest = unnamed members;
    }

unfoldable pub project_of : Members → Result Said Refusal
project_of members = in_key_order (
    verdict (codes "name") (text_in (codes "name") members)
    ∷ verdict (codes "uuid") (uuid_in members)
    ∷ verdict (codes "version") (version_in members)
    ∷ verdict (codes "deps") (ids_in (codes "deps") members)
    ∷ verdict (codes "weakdeps") (ids_in (codes "weakdeps") members)
    ∷ verdict (codes "extensions") (extensions_in members)
    ∷ verdict (codes "compat") (compat_in members)
    ∷ verdict (codes "extras") (ids_in (codes "extras") members)
    ∷ verdict (codes "sources") (sources_in members)
    ∷ verdict (codes "manifest") (text_in (codes "manifest") members)
    ∷ []) (Ok (built members))

abbrev pub read_of : List ℕ → Result Said Cause
read_of bytes = of_view project_of (viewed bytes)
