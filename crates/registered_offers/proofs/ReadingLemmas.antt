-- The tables that a registry's own reading gives, and what stops one reading of several.
use Rattle.std.proofs.Common.{◌≡◌, ℕ, List, Option, Some, None, IfSome, Result, Ok, Err, MatchResult, option_map, refl, sym, ap, ◌∙◌}
use Rattle.pkg_world.specs.Path.{Path}
use Rattle.pkg_world.specs.Tree.{Files}
use Rattle.pkg_world.proofs.Each.{Stops}
use Rattle.registry_tables.specs.Answers.{Read, Refuses}
use Rattle.registry_tables.specs.Registry.{Registered, registered}
use Rattle.registry_tables.specs.Rows.{Rows, seen_rows, rows_at, rows_from, some_rows, rows_of_package, package_named, folder_of, rows_in}
use Rattle.registry_tables.specs.declared.fault.RegFault.{RegFault}
use Rattle.registry_tables.specs.declared.fault.RegFault.TheVariants.{ReadFault, MissingFile, BadFile, Memory}
use Rattle.registry_tables.specs.declared.package_list.Package.{Package}
use Rattle.registry_tables.specs.declared.package_list.Registry.{Registry}
use Rattle.package_tables.specs.declared.package_rows.PackageRows.{PackageRows}
use Rattle.registered_offers.specs.ListedTables.{alone, option_rows, tables_inside, tables_where, tables_at}

abbrev where_listed : Read (Option Rows) → Read (List Rows)
where_listed (Ok found) = Ok (option_rows found)
where_listed (Err unusable) = Err unusable

listed_alone : (reading : Read Rows) → where_listed (some_rows reading) ≡ alone reading
listed_alone (Ok rows) = refl
listed_alone (Err unusable) = refl

listed_inside : (files : Files) (registry : Registry) (wanted : Package) (inside : Option Path) → where_listed (some_rows (rows_from files registry wanted inside)) ≡ tables_inside files registry.folder wanted inside
listed_inside files registry wanted None = refl
listed_inside files registry wanted (Some inside) = listed_alone (rows_at files wanted inside)

listed_where : (files : Files) (registry : Registry) (found : Option Package) → where_listed (rows_of_package files registry found) ≡ tables_where files registry.folder found
listed_where files registry None = refl
listed_where files registry (Some wanted) = listed_inside files registry wanted (folder_of registry wanted)

listed_at : (files : Files) (registry : Registry) (seen : Registered) (uuid : List ℕ) → registered registry ≡ seen → where_listed (rows_in files registry uuid) ≡ tables_at files uuid seen
listed_at files registry seen uuid same = listed_where files registry (package_named registry uuid) ∙ ap (tables_at files uuid) same

refused_at : (fault : RegFault) (reading : Read (Option Rows)) (other : Read (List Rows)) → where_listed reading ≡ other → Refuses reading fault → Refuses other fault
refused_at (ReadFault path) reading other same h = tt
refused_at (MissingFile path) reading other same h = sym same ∙ ap where_listed h
refused_at (BadFile path cause) reading other same h = sym same ∙ ap where_listed h
refused_at Memory reading other same h = tt

-- what the registry's own reading tells
pub tables-told : (files : Option Files) (registry : Registry) (seen : Registered) (uuid : List ℕ) (answer : Result (Option PackageRows) RegFault) → registered registry ≡ seen
    → IfSome files (λ all. MatchResult answer (λ found. rows_in all registry uuid ≡ Ok (option_map seen_rows found)) (Refuses (rows_in all registry uuid)))
    → IfSome files (λ all. MatchResult answer (λ found. tables_at all uuid seen ≡ Ok (option_rows (option_map seen_rows found))) (Refuses (tables_at all uuid seen)))
tables-told None registry seen uuid answer same h = tt
tables-told (Some all) registry seen uuid (Ok found) same h = sym (listed_at all registry seen uuid same) ∙ ap where_listed h
tables-told (Some all) registry seen uuid (Err fault) same h = refused_at fault (rows_in all registry uuid) (tables_at all uuid seen) (listed_at all registry seen uuid same) h

-- what stops one reading stops those that begin with it
pub stops : {T : Type 0} (fault : RegFault) → Stops {T = T} (λ reading. Refuses reading fault)
stops (ReadFault path) one after old h = tt
stops (MissingFile path) (Ok first) after old h = cc
stops (MissingFile path) (Err unusable) after old h = h
stops (BadFile path cause) (Ok first) after old h = cc
stops (BadFile path cause) (Err unusable) after old h = h
stops Memory one after old h = tt
