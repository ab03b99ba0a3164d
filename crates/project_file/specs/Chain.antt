-- The readings one after another in the order of the keys' bytes, as the code goes. `project_of` and `source_in` say what
-- they mean together.
use Rattle.std.specs.Prelude.{ℕ, List, codes, Option, Result}
use Rattle.toml.specs.Data.{Members}
use Rattle.toml_view.specs.Reading.{chained, mapped}
use Rattle.toml_view.specs.declared.refusal.Refusal.{Refusal}
use Rattle.jl_versions.specs.declared.version.Version.{Version}
use Rattle.project_file.specs.declared.parts.Front.{Front}
use Rattle.project_file.specs.declared.parts.Middle.{Middle}
use Rattle.project_file.specs.declared.parts.Back.{Back}
use Rattle.project_file.specs.declared.source.Source.{Source}
use Rattle.project_file.specs.Spelled.{Spelled}
use Rattle.project_file.specs.Places.{text_in, source_from}
use Rattle.project_file.specs.Keys.{unnamed}
use Rattle.project_file.specs.Said.{Said}
use Rattle.project_file.specs.Projects.{uuid_in, version_in, ids_in, extensions_in, compat_in, sources_in}

unfoldable pub source_chain : Members → Result Source Refusal
source_chain members =
    chained (λ path.
    chained (λ rev.
    chained (λ subdir.
    chained (λ url. source_from path url rev subdir)
    (text_in (codes "url") members))
    (text_in (codes "subdir") members))
    (text_in (codes "rev") members))
    (text_in (codes "path") members)

-- the keys before `manifest`
abbrev pub fronts : Result (List (List ℕ × Spelled)) Refusal → Result (List (List ℕ × List ℕ)) Refusal → Result (List (List ℕ × List (List ℕ))) Refusal → Result (List (List ℕ × List ℕ)) Refusal → Result Front Refusal
fronts compat deps extensions extras =
    chained (λ c. chained (λ d. chained (λ e. mapped (λ x. record { compat = c; deps = d; extensions = e; extras = x }) extras) extensions) deps) compat

-- those from `manifest` to `sources`
abbrev pub middles : Result (Option (List ℕ)) Refusal → Result (Option (List ℕ)) Refusal → Result (List (List ℕ × Source)) Refusal → Result Middle Refusal
middles manifest name sources = chained (λ m. chained (λ n. mapped (λ s. record { manifest = m; name = n; sources = s }) sources) name) manifest

-- those from `uuid` on
abbrev pub backs : Result (Option (List ℕ)) Refusal → Result (Option Version) Refusal → Result (List (List ℕ × List ℕ)) Refusal → Result Back Refusal
backs uuid version weakdeps = chained (λ u. chained (λ v. mapped (λ w. record { uuid = u; version = v; weakdeps = w }) weakdeps) version) uuid

unfoldable pub front_of : Members → Result Front Refusal
front_of members = fronts (compat_in members) (ids_in (codes "deps") members) (extensions_in members) (ids_in (codes "extras") members)

unfoldable pub middle_of : Members → Result Middle Refusal
middle_of members = middles (text_in (codes "manifest") members) (text_in (codes "name") members) (sources_in members)

unfoldable pub back_of : Members → Result Back Refusal
back_of members = backs (uuid_in members) (version_in members) (ids_in (codes "weakdeps") members)

-- the three parts and all other keys together
abbrev pub joined : Front → Middle → Back → Members → Said
joined front middle back rest =
    record {
      name = middle.name;
      uuid = back.uuid;
      version = back.version;
      deps = front.deps;
      weakdeps = back.weakdeps;
      extensions = front.extensions;
      compat = front.compat;
      extras = front.extras;
      sources = middle.sources;
      manifest = middle.manifest;
      rest = rest;
    }

abbrev pub in_turn : Result Front Refusal → Result Middle Refusal → Result Back Refusal → Members → Result Said Refusal
in_turn front middle back rest = chained (λ f. chained (λ m. mapped (λ b. joined f m b rest) back) middle) front

unfoldable pub project_chain : Members → Result Said Refusal
project_chain members = in_turn (front_of members) (middle_of members) (back_of members) (unnamed members)
