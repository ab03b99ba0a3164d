-- The catalog of a place, a project and its manifest: what files offer besides the tables of registered packages. (Registries,
-- project files and manifests: Pkg; the order and the rest are own rules.) The files are read in this order, and the first
-- that is missing or refused counts: each registry's own file, by the depots and then by the folders' names; the project
-- files of the standard libraries, by the folders' names; those of the fixed packages, by name and then by identifier.
--     catalogued files place home said manifest     the catalog, or the first file that is missing or refused
use Rattle.std.specs.Prelude.{ℕ, List, map, Ok}
use Rattle.pkg_world.specs.Each.{then_ok}
use Rattle.pkg_world.specs.Tree.{Files}
use Rattle.pkg_world.specs.declared.place.Home.{Home}
use Rattle.pkg_world.specs.declared.place.Place.{Place}
use Rattle.registry_tables.specs.Answers.{Read}
use Rattle.registry_tables.specs.Registries.{folders}
use Rattle.registry_tables.specs.Registry.{Registered}
use Rattle.registered_offers.specs.ListedTables.{registries_in}
use Rattle.project_file.specs.Said as project
use Rattle.manifest_file.specs.Saying as manifest
use Rattle.standard_libraries.specs.Libraries.{ById, libraries_in}
use Rattle.fixed_packages.specs.FixedPackages.{Said, fixed_in, read_as}
use Rattle.fixed_packages.specs.SaidGiven.{SaidGiven}
use Rattle.offer_terms.specs.Demanded.{FixedSaid}
use Rattle.offer_catalog.specs.SaidCatalog.{SaidCatalog}
use Rattle.offer_catalog.specs.Trees.{trees_of}
use Rattle.offer_catalog.specs.declared.loading.Unfixed as code

-- the registries of all depots
abbrev pub registries_of : Files → Place → Read (List Registered)
registries_of files place = registries_in files (folders files place.depots.items)

-- the parts that no project fixes
pub record Unfixed : Type 0 where
  pub registries : List Registered
  pub libraries : ById

abbrev pub with_libraries : Files → Place → List Registered → Read Unfixed
with_libraries files place registries =
    then_ok (read_as (libraries_in files place.julia place.stdlib)) (λ libraries. Ok (record { registries = registries; libraries = libraries }))

abbrev pub unfixed_in : Files → Place → Read Unfixed
unfixed_in files place = then_ok (registries_of files place) (with_libraries files place)

-- a fixed package with its identifier
abbrev pub fixed_of : List ℕ × SaidGiven → FixedSaid
fixed_of entry = record {
  uuid = entry.0;
  name = entry.1.name;
  version = entry.1.version;
  deps = entry.1.deps;
  weak = entry.1.weak;
  compat = entry.1.compat;
  origin = entry.1.origin;
  extensions = entry.1.extensions;
}

abbrev pub joined : Home → manifest.Said → Unfixed → Said → SaidCatalog
joined home found unfixed fixed = record {
  home = home;
  registries = unfixed.registries;
  libraries = unfixed.libraries;
  fixed = map fixed_of fixed;
  trees = trees_of found.stanzas;
}

abbrev pub with_fixed : Files → Home → project.Said → manifest.Said → Unfixed → Read SaidCatalog
with_fixed files home said found unfixed = then_ok (fixed_in files home said found) (λ fixed. Ok (joined home found unfixed fixed))

abbrev pub catalogued : Files → Place → Home → project.Said → manifest.Said → Read SaidCatalog
catalogued files place home said found = then_ok (unfixed_in files place) (with_fixed files home said found)

-- the parts without the room of their lists
abbrev pub said_unfixed : code.Unfixed → Unfixed
said_unfixed unfixed = record { registries = unfixed.registries.items; libraries = unfixed.libraries.entries }
