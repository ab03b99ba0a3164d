-- The versions that registries list of a package, in rising order (Pkg, registries): of a version that several list, the row
-- of the first one counts.
--     merged tables     each version with its row and the tables that it stands in
use Rattle.std.specs.Prelude.{Bool, List, [], map, fold, is_some, if◌then◌else◌}
use Rattle.std.specs.BTreeMap.{insert_entry, is_at}
use Rattle.std.specs.Map.{lookup}
use Rattle.jl_versions.specs.Order.{version_cmp}
use Rattle.jl_versions.specs.declared.version.Version.{Version}
use Rattle.registry_tables.specs.Rows.{Rows}
use Rattle.package_tables.specs.declared.package_rows.VersionRow.{VersionRow}

-- what a registry says of a version itself, and that registry's tables
abbrev pub ListedVersion : Type 0
ListedVersion = VersionRow × Rows

abbrev pub listed_version : Rows → VersionRow → ListedVersion
listed_version rows row = (row, rows)

abbrev pub ListedVersions : Type 0
ListedVersions = List (Version × ListedVersion)

abbrev pub is_listed : Version → ListedVersions → Bool
is_listed v versions = is_some (lookup (is_at (version_cmp v)) versions)

-- one version more at its place in the order, unless it is there
abbrev pub put_version : ListedVersions → ListedVersion → ListedVersions
put_version versions one = if is_listed one.0.version versions then versions else insert_entry version_cmp versions one.0.version one

-- the versions of one more registry
abbrev pub put_versions : ListedVersions → Rows → ListedVersions
put_versions versions rows = fold put_version versions (map (listed_version rows) rows.versions)

-- the versions of all registries, the first registry's before the others'
abbrev pub merged : List Rows → ListedVersions
merged tables = fold put_versions [] tables
