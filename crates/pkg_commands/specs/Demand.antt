-- What a project demands of a selection (Pkg, Project.toml and Compatibility; pins and fixed packages are own rules).
--     demand_of catalog place change     the roots of the changed project, its compat, the pins, the fixed packages and Julia's version
use Rattle.std.specs.Prelude.{◌++◌, List, [], codes, filter, Option, None, option_map, if◌then◌else◌}
use Rattle.std.specs.List.{filter_map}
use Rattle.std.specs.Str.{bytes_eq}
use Rattle.compat_spec.specs.declared.part.Part.{Part}
use Rattle.jl_versions.specs.declared.version.Version.{Version}
use Rattle.pkg_world.specs.declared.place.Place.{Place}
use Rattle.package_tables.specs.Row.{value_of}
use Rattle.project_file.specs.Said as project
use Rattle.project_file.specs.Spelled.{Spelled}
use Rattle.manifest_file.specs.Saying.{SaidStanza}
use Rattle.offer_terms.specs.Offered.{Text, Id, Selected, version_in}
use Rattle.offer_terms.specs.Demanded.{Wanted}
use Rattle.package_offers.specs.GivenOffers.{strong_deps}
use Rattle.offer_catalog.specs.SaidCatalog.{SaidCatalog}
use Rattle.offer_catalog.specs.Selected.{selected_by}
use Rattle.pkg_commands.specs.Changes.{Changed}

-- what compat says of a name; compat on `julia` is Julia's alone
abbrev pub parts_on : List (Text × Spelled) → Text → Option (List Part)
parts_on compat name = if bytes_eq name (codes "julia") then None else option_map (λ it. it.parts) (value_of name compat)

abbrev pub compat_entry : List (Text × Spelled) → Text × Id → Option (Id × List Part)
compat_entry compat dep = option_map (λ parts. (dep.1, parts)) (parts_on compat dep.0)

-- compat on some dependencies, by their identifiers
abbrev pub compat_on : List (Text × Spelled) → List (Text × Id) → List (Id × List Part)
compat_on compat deps = filter_map (compat_entry compat) deps

-- the project's compat on its dependencies and on its weak ones; on any other name it is ignored
abbrev pub compat_of : project.Said → List (Id × List Part)
compat_of said = compat_on said.compat said.deps ++ compat_on said.compat said.weakdeps

abbrev pub pin_on : Selected → Id → Option (Id × Version)
pin_on selected uuid = option_map (λ version. (uuid, version)) (version_in selected uuid)

-- the packages of pinned stanzas, with the versions that the manifest selects
abbrev pub pins_of : Selected → List SaidStanza → List (Id × Version)
pins_of selected stanzas = filter_map (λ stanza. pin_on selected stanza.uuid) (filter (λ stanza. stanza.pinned) stanzas)

-- roots are the dependencies that aren't weak, but for Julia and the project's own package; no version is held
abbrev pub demand_of : SaidCatalog → Place → Changed → Wanted
demand_of catalog place it = record {
  roots = strong_deps it.project.uuid it.project.weakdeps it.project.deps;
  own = it.project.uuid;
  compat = compat_of it.project;
  pins = pins_of (selected_by catalog it.project.uuid it.manifest) it.manifest.stanzas;
  held = [];
  fixed = it.fixed;
  julia = place.julia;
}
