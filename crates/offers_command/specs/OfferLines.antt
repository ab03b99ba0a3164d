-- The lines of a package that registries offer: its name and identifier, and its versions in rising order, each with what
-- its row says. Of a version that several registries list the first one's row counts. (Rows: Pkg, registries; the rest is an
-- own rule.)
--     package_lines tables     the lines, from the tables of the registries that list the package, in the order of these
use Rattle.std.specs.Prelude.{ℕ, Bool, true, false, List, [], ◌∷◌, ◌++◌, map, codes, Option, Some, None}
use Rattle.std.specs.List.{flat_map}
use Rattle.uuid.specs.Text.{hyphenated_text, lower}
use Rattle.pkg_world.specs.TreeIds.{tree_text}
use Rattle.jl_versions.specs.Printing.{printed}
use Rattle.jl_versions.specs.declared.version.Version.{Version}
use Rattle.compat_spec.specs.Ranges.{Ranged}
use Rattle.registry_tables.specs.Rows.{Rows}
use Rattle.package_tables.specs.Row.{allowed_in}
use Rattle.package_tables.specs.declared.expanding.Row.{Row}
use Rattle.package_tables.specs.declared.package_rows.VersionRow.{VersionRow}
use Rattle.registered_offers.specs.Merged.{ListedVersion, ListedVersions, merged}
use Rattle.registered_offers.specs.SaidRow.{deps_of, weak_of, compat_of}

-- a dependency, behind the word of its kind
abbrev pub id_line : List ℕ → List ℕ × List ℕ → List ℕ
id_line word id = word ++ (id.0 ++ (codes " " ++ (hyphenated_text lower id.1 ++ 10 ∷ [])))

-- the texts of ranges, joined by a comma and a space
abbrev pub ranges_text : List Ranged → List ℕ
ranges_text [] = []
ranges_text (range ∷ more) = range.text ++ flat_map (λ r. codes ", " ++ r.text) more

abbrev pub compat_line : List ℕ × List Ranged → List ℕ
compat_line entry = codes "  compat " ++ (entry.0 ++ (codes " " ++ (ranges_text entry.1 ++ 10 ∷ [])))

abbrev pub yanked_text : Bool → List ℕ
yanked_text true = codes " yanked"
yanked_text false = []

-- `VERSION TREE`, and whether the version is yanked
abbrev pub version_line : VersionRow → List ℕ
version_line row = printed row.version ++ (codes " " ++ (tree_text row.tree ++ (yanked_text row.yanked ++ 10 ∷ [])))

-- what the row of a version says, each list by names
abbrev pub row_lines : Rows → Version → List ℕ
row_lines rows v =
    flat_map (id_line (codes "  dep ")) (deps_of rows v)
    ++ (flat_map (id_line (codes "  weak ")) (weak_of rows v)
    ++ flat_map compat_line (compat_of rows v))

-- the lines of a version
abbrev pub listed_lines : ListedVersion → List ℕ
listed_lines listed = version_line listed.0 ++ row_lines listed.1 listed.0.version

-- the lines of all versions, in their order
abbrev pub all_lines : ListedVersions → List ℕ
all_lines versions = flat_map (λ e. listed_lines e.1) versions

-- `NAME UUID`, as a registry lists a package
abbrev pub head_line : Rows → List ℕ
head_line rows = rows.name ++ (codes " " ++ (hyphenated_text lower rows.uuid ++ 10 ∷ []))

-- the lines of a package, by the name that the first registry has for it; of one that no registry lists there is none
abbrev pub package_lines : List Rows → List ℕ
package_lines [] = []
package_lines (first ∷ more) = head_line first ++ all_lines (merged (first ∷ more))

-- the same lines from a row that was made; a specifier, which no registry has, has no line
abbrev pub some_line : List ℕ → Option (List Ranged) → List ℕ
some_line name None = []
some_line name (Some ranges) = compat_line (name, ranges)

abbrev pub entry_line : List ℕ × Option (List Ranged) → List ℕ
entry_line entry = some_line entry.0 entry.1

abbrev pub made_lines : Row → List ℕ
made_lines row =
    flat_map (id_line (codes "  dep ")) row.deps.items
    ++ (flat_map (id_line (codes "  weak ")) row.weak.items
    ++ flat_map entry_line (map allowed_in row.compat.items))
