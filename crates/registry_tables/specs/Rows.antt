-- The tables of a package in a registry (Pkg, registries), read from the files of its folder in a fixed order: the first
-- file that is missing or refused counts.
--     rows_in files registry uuid     the tables of a package; None where the registry doesn't list it
use Rattle.std.specs.Prelude.{◌≡◌, ℕ, List, [], ◌∷◌, ◌++◌, map, find, codes, Option, Some, None, Result, Ok, Err, MatchResult, option_map}
use Rattle.std.specs.Str.{bytes_eq}
use Rattle.toml.specs.Data.{Members}
use Rattle.toml_view.specs.Causes.{caused}
use Rattle.pkg_world.specs.declared.cause.Cause.{Cause}
use Rattle.pkg_world.specs.Path.{Path, joined}
use Rattle.pkg_world.specs.Tree.{Files}
use Rattle.compat_spec.specs.Ranges.{Ranged}
use Rattle.compat_spec.specs.Listing.{Listing as Room}
use Rattle.pkg_world.specs.Listing.{Listing}
use Rattle.registry_tables.specs.Answers.{Read, Refuses, missing, then_read, at_file, needed_table, optional_table}
use Rattle.package_tables.specs.Sections.{package_of, bare}
use Rattle.package_tables.specs.Tables.{version_rows, id_entries, range_entries}
use Rattle.registry_tables.specs.declared.package_list.Package.{Package}
use Rattle.registry_tables.specs.declared.package_list.Registry.{Registry}
use Rattle.package_tables.specs.declared.package_rows.Entry.{Entry}
use Rattle.package_tables.specs.declared.package_rows.VersionRow.{VersionRow}
use Rattle.package_tables.specs.declared.package_rows.PackageRows.{PackageRows}
use Rattle.registry_tables.specs.declared.fault.RegFault.{RegFault}
use Rattle.registry_tables.specs.declared.section_files.Tables as code

-- the entries of a table of dependencies, and of the compat table beside it
pub record Tables : Type 0 where
  pub deps : List (Entry (List ℕ))
  pub compat : List (Entry (List Ranged))

pub record Rows : Type 0 where
  pub name : List ℕ
  pub uuid : List ℕ
  pub versions : List VersionRow
  pub strong : Tables
  pub weak : Tables

-- the package's own file, which has to be there, with the name and the identifier that the registry gives
unfoldable pub package_at : Files → Package → Path → Read (Unit {0})
package_at files wanted file = then_read (λ members. at_file file (caused (package_of wanted.name wanted.uuid members))) (needed_table files file)

abbrev pub package_in : Files → Package → Path → Read (Unit {0})
package_in files wanted folder = package_at files wanted (folder ++ codes "Package.toml" ∷ [])

-- the file of the versions, which has to be there
unfoldable pub versions_at : Files → Path → Read (List VersionRow)
versions_at files file = then_read (λ members. at_file file (version_rows members)) (needed_table files file)

abbrev pub versions_in : Files → Path → Read (List VersionRow)
versions_in files folder = versions_at files (folder ++ codes "Versions.toml" ∷ [])

-- the entries of a table with sections; where the file is absent there are none
abbrev pub entries_at : {T : Type 0} → (Members → Result (List (Entry T)) Cause) → Path → Option Members → Read (List (Entry T))
entries_at entries file None = Ok []
entries_at entries file (Some members) = at_file file (entries members)

abbrev pub entries_in : {T : Type 0} → (Members → Result (List (Entry T)) Cause) → Files → Path → Read (List (Entry T))
entries_in entries files file = then_read (entries_at entries file) (optional_table files file)

unfoldable pub tables_in : Files → Path → List VersionRow → List ℕ → List ℕ → Read Tables
tables_in files folder versions deps_name compat_name =
    then_read (λ deps. then_read (λ compat. Ok (record { deps = deps; compat = compat })) (entries_in (range_entries versions) files (folder ++ compat_name ∷ [])))
    (entries_in (id_entries versions) files (folder ++ deps_name ∷ []))

abbrev pub strong_in : Files → Path → List VersionRow → Read Tables
strong_in files folder versions = tables_in files folder versions (codes "Deps.toml") (codes "Compat.toml")

abbrev pub weak_in : Files → Path → List VersionRow → Read Tables
weak_in files folder versions = tables_in files folder versions (codes "WeakDeps.toml") (codes "WeakCompat.toml")

-- the tables with sections
unfoldable pub with_versions : Files → Package → Path → List VersionRow → Read Rows
with_versions files wanted folder versions =
    then_read (λ strong. then_read (λ weak. Ok (record { name = wanted.name; uuid = wanted.uuid; versions = versions; strong = strong; weak = weak }))
    (weak_in files folder versions)) (strong_in files folder versions)

abbrev pub after_package : Files → Package → Path → Read Rows
after_package files wanted folder = then_read (with_versions files wanted folder) (versions_in files folder)

-- the tables of a package whose folder this is, in the order of its files
abbrev pub rows_at : Files → Package → Path → Read Rows
rows_at files wanted folder = then_read (λ _. after_package files wanted folder) (package_in files wanted folder)

-- the folder of a package, from the registry's
abbrev pub folder_of : Registry → Package → Option Path
folder_of registry wanted = joined registry.folder wanted.path

-- a package whose path rises above the root has no file; `Registry::load` refuses it
abbrev pub rows_from : Files → Registry → Package → Option Path → Read Rows
rows_from files registry wanted None = Err (missing registry.folder)
rows_from files registry wanted (Some folder) = rows_at files wanted folder

abbrev pub some_rows : Read Rows → Read (Option Rows)
some_rows (Ok rows) = Ok (Some rows)
some_rows (Err unusable) = Err unusable

abbrev pub rows_of_package : Files → Registry → Option Package → Read (Option Rows)
rows_of_package files registry None = Ok None
rows_of_package files registry (Some wanted) = some_rows (rows_from files registry wanted (folder_of registry wanted))

-- the package of an identifier
abbrev pub package_named : Registry → List ℕ → Option Package
package_named registry uuid = find (λ wanted. bytes_eq uuid wanted.uuid) registry.packages

abbrev pub rows_in : Files → Registry → List ℕ → Read (Option Rows)
rows_in files registry uuid = rows_of_package files registry (package_named registry uuid)

-- the tables as they are kept, without the room of their lists
abbrev pub seen_tables : code.Tables → Tables
seen_tables tables = record { deps = tables.deps.items; compat = map bare tables.compat.items }

abbrev pub seen_rows : PackageRows → Rows
seen_rows rows = record {
  name = rows.name;
  uuid = rows.uuid;
  versions = rows.versions.items;
  strong = record { deps = rows.deps.items; compat = map bare rows.compat.items };
  weak = record { deps = rows.weakdeps.items; compat = map bare rows.weakcompat.items };
}

-- what the answers tell
abbrev pub LoadsRows : Read Rows → Result PackageRows RegFault → Type 0
LoadsRows reading answer = MatchResult answer (λ rows. reading ≡ Ok (seen_rows rows)) (Refuses reading)

abbrev pub LoadsTables : Read Tables → Result code.Tables RegFault → Type 0
LoadsTables reading answer = MatchResult answer (λ tables. reading ≡ Ok (seen_tables tables)) (Refuses reading)

abbrev pub LoadsList : {T : Type 0} → Read (List T) → Result (Listing T) RegFault → Type 0
LoadsList reading answer = MatchResult answer (λ list. reading ≡ Ok list.items) (Refuses reading)

abbrev pub LoadsRanges : Read (List (Entry (List Ranged))) → Result (Listing (Entry (Room Ranged))) RegFault → Type 0
LoadsRanges reading answer = MatchResult answer (λ list. reading ≡ Ok (map bare list.items)) (Refuses reading)
