-- What registries say of a package (Pkg, registries): the registries of some folders, and the tables of a package in those
-- that list it, each in the order of the registries. The first file that is missing or refused counts.
--     registries_in files folders           the registries of these folders
--     tables_in files registries uuid       the tables of a package, from the registries that list it
use Rattle.std.specs.Prelude.{◌≡◌, ℕ, List, [], ◌∷◌, find, Option, Some, None, Result, Ok, Err, MatchResult}
use Rattle.std.specs.Str.{bytes_eq}
use Rattle.pkg_world.specs.Each.{read_each, onto}
use Rattle.pkg_world.specs.Path.{Path, joined}
use Rattle.pkg_world.specs.Tree.{Files}
use Rattle.registry_tables.specs.Answers.{Read, Refuses, missing}
use Rattle.registry_tables.specs.Registry.{Registered, registry_in}
use Rattle.registry_tables.specs.Rows.{Rows, rows_at}
use Rattle.registry_tables.specs.declared.fault.RegFault.{RegFault}
use Rattle.registry_tables.specs.declared.package_list.Package.{Package}

abbrev pub alone : {T : Type 0} → Read T → Read (List T)
alone (Ok value) = Ok (value ∷ [])
alone (Err unusable) = Err unusable

abbrev pub registry_at : Files → Path → Read (List Registered)
registry_at files folder = alone (registry_in files folder)

-- the registries of these folders
abbrev pub registries_in : Files → List Path → Read (List Registered)
registries_in files folders = read_each (registry_at files) folders

-- the package of an identifier, as a registry lists it
abbrev pub package_of : List ℕ → Registered → Option Package
package_of uuid registry = find (λ wanted. bytes_eq uuid wanted.uuid) registry.packages

-- the tables in a package's folder. A package whose path rises above the root has no file, and the registry's folder is told.
abbrev pub tables_inside : Files → Path → Package → Option Path → Read (List Rows)
tables_inside files folder wanted None = Err (missing folder)
tables_inside files folder wanted (Some inside) = alone (rows_at files wanted inside)

-- none of a package that isn't listed; else those in the folder that the package's path means from the registry's
abbrev pub tables_where : Files → Path → Option Package → Read (List Rows)
tables_where files folder None = Ok []
tables_where files folder (Some wanted) = tables_inside files folder wanted (joined folder wanted.path)

-- the tables of a package in one registry
abbrev pub tables_at : Files → List ℕ → Registered → Read (List Rows)
tables_at files uuid registry = tables_where files registry.folder (package_of uuid registry)

abbrev pub option_rows : Option Rows → List Rows
option_rows None = []
option_rows (Some rows) = rows ∷ []

-- the tables of a package in the registries that list it
abbrev pub tables_in : Files → List Registered → List ℕ → Read (List Rows)
tables_in files registries uuid = read_each (tables_at files uuid) registries

-- what is read was put behind what there was
abbrev pub Adds : {T : Type 0} → Read (List T) → List T → List T → Result (Unit {0}) RegFault → Type 0
Adds reading old new answer = MatchResult answer (λ _. onto old reading ≡ Ok new) (Refuses (onto old reading))
