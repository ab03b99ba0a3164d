-- A catalog as plain lists.
use Rattle.std.specs.Prelude.{ℕ, List}
use Rattle.pkg_world.specs.declared.place.Home.{Home}
use Rattle.registry_tables.specs.Registry.{Registered}
use Rattle.standard_libraries.specs.Libraries.{ById}
use Rattle.offer_terms.specs.Demanded.{FixedSaid}
use Rattle.package_offers.specs.TreeExts.{TreeExts}

-- the paths of the project's two files; the registries, in their order; the standard libraries by their identifiers; the
-- fixed packages in the order of theirs; the trees of the manifest's stanzas, by the identifiers of the packages
pub record SaidCatalog : Type 0 where
  pub home : Home
  pub registries : List Registered
  pub libraries : ById
  pub fixed : List FixedSaid
  pub trees : List (List ℕ × TreeExts)
