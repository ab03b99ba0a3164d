-- What is true of the merged versions: a version stands there exactly where some tables list it, with its row in the first
-- tables that do, and the versions rise.
use Rattle.std.specs.Prelude.{◌≡◌, List, [], ◌∷◌, find, Option, None, option_map}
use Rattle.std.specs.BTreeMap.{is_at}
use Rattle.std.specs.List.{AllByRecursion}
use Rattle.std.specs.List.Sorted.{IsStrictlySortedBy}
use Rattle.std.specs.Map.{lookup, keys_of}
use Rattle.std.specs.Option.{option_or}
use Rattle.std.specs.Ordering.{is_eq}
use Rattle.jl_versions.specs.Order.{version_cmp}
use Rattle.jl_versions.specs.declared.version.Version.{Version}
use Rattle.registry_tables.specs.Rows.{Rows}
use Rattle.package_tables.specs.declared.package_rows.VersionRow.{VersionRow}
use Rattle.registered_offers.specs.Merged.{ListedVersion, listed_version, merged}

-- the row that tables list for a version
abbrev pub row_in : Version → Rows → Option VersionRow
row_in v rows = find (λ row. is_eq (version_cmp v row.version)) rows.versions

-- a version's row in the first tables that list it
abbrev pub first_row : Version → List Rows → Option ListedVersion
first_row v [] = None
first_row v (rows ∷ more) = option_or (option_map (listed_version rows) (row_in v rows)) (first_row v more)

-- what is found at a version is its row in the first tables that list it, and nothing where none do
abbrev pub FirstRowCounts : Type 0
FirstRowCounts = (tables : List Rows) (v : Version) → lookup (is_at (version_cmp v)) (merged tables) ≡ first_row v tables

-- each version stands once, in rising order
abbrev pub VersionsRise : Type 0
VersionsRise = (tables : List Rows) → IsStrictlySortedBy version_cmp (keys_of (merged tables))

-- what stands at a version is a row of that version
abbrev pub RowsAreOfTheirVersions : Type 0
RowsAreOfTheirVersions = (tables : List Rows) → AllByRecursion (λ e. e.0 ≡ e.1.0.version) (merged tables)
