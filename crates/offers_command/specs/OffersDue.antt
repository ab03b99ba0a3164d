-- What `offers` is due to answer: the lines of each package that some registry lists under the name. First the registries
-- are read, in the order of the depots and then of their folders' names, then the packages' tables; the first file that is
-- missing or refused counts. (Registries: Pkg; the order and the lines are own rules.)
use Rattle.std.specs.Prelude.{ℕ, Bool, List, [], ◌∷◌, map, filter, fold, Result, Ok, Err}
use Rattle.std.specs.BTreeSet.{insert_key}
use Rattle.std.specs.Str.{bytes_eq}
use Rattle.pkg_world.specs.Each.{then_ok, read_each}
use Rattle.pkg_world.specs.Path.{Path}
use Rattle.pkg_world.specs.Tree.{Files}
use Rattle.pkg_world.specs.declared.place.Place.{Place}
use Rattle.registry_tables.specs.Answers.{Read, missing, bad}
use Rattle.registry_tables.specs.Registries.{folders}
use Rattle.registry_tables.specs.Registry.{Registered}
use Rattle.package_tables.specs.Row.{by_bytes}
use Rattle.registry_tables.specs.Rows.{Rows}
use Rattle.registry_tables.specs.declared.package_list.Package.{Package}
use Rattle.offers_command.specs.OfferLines.{package_lines}
use Rattle.registered_offers.specs.ListedTables.{registries_in, tables_in}
use Rattle.command_answers.specs.declared.status.Status.{Status}
use Rattle.command_answers.specs.declared.status.Status.TheVariants.{MissingFile, BadFile, UnknownName}

abbrev pub told_read : {T : Type 0} → Read T → Result T Status
told_read (Ok value) = Ok value
told_read (Err (missing path)) = Err (MissingFile path)
told_read (Err (bad path cause)) = Err (BadFile path cause)

abbrev pub has_name : List ℕ → Package → Bool
has_name name listed = bytes_eq listed.name name

-- the identifiers that packages of a name have
abbrev pub uuids_of : List ℕ → List Package → List (List ℕ)
uuids_of name packages = map (λ listed. listed.uuid) (filter (has_name name) packages)

-- identifiers put to others, in the order of their bytes and each once
abbrev pub put_listed : List ℕ → List (List ℕ) → List Package → List (List ℕ)
put_listed name uuids packages = fold (insert_key by_bytes) uuids (uuids_of name packages)

abbrev pub put_uuids : List ℕ → List (List ℕ) → Registered → List (List ℕ)
put_uuids name uuids registry = put_listed name uuids registry.packages

-- the identifiers that some registry lists under a name
abbrev pub uuids_named : List ℕ → List Registered → List (List ℕ)
uuids_named name registries = fold (put_uuids name) [] registries

abbrev pub some_lines : Read (List Rows) → Read (List ℕ)
some_lines tables = then_ok tables (λ found. Ok (package_lines found))

-- the lines of a package, over all registries
abbrev pub package_in : Files → List Registered → List ℕ → Read (List ℕ)
package_in files registries uuid = some_lines (tables_in files registries uuid)

abbrev pub packages_in : Files → List Registered → List (List ℕ) → Read (List ℕ)
packages_in files registries uuids = read_each (package_in files registries) uuids

-- a name that no registry lists is refused
abbrev pub of_uuids : Files → List ℕ → List Registered → List (List ℕ) → Result (List ℕ) Status
of_uuids files name registries [] = Err (UnknownName name)
of_uuids files name registries (uuid ∷ more) = told_read (packages_in files registries (uuid ∷ more))

abbrev pub of_registries : Files → List ℕ → List Registered → Result (List ℕ) Status
of_registries files name registries = of_uuids files name registries (uuids_named name registries)

abbrev pub of_folders : Files → List ℕ → List Path → Result (List ℕ) Status
of_folders files name paths = then_ok (told_read (registries_in files paths)) (of_registries files name)

abbrev pub offers_due : Files → Place → List ℕ → Result (List ℕ) Status
offers_due files place name = of_folders files name (folders files place.depots.items)
