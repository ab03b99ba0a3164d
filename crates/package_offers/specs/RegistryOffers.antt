-- What registries offer of a package (Pkg, registries): each listed version that isn't yanked, and a yanked one where it is
-- pinned, with what its row says. (Which entries count and where extensions come from are own rules.)
--     registry_offers uuid own pins known tables     the offers, in rising order of their versions
use Rattle.std.specs.Prelude.{ℕ, Bool, true, not, ◌||◌, List, [], map, filter, codes, Option, Some, None, option_map, if◌then◌else◌}
use Rattle.std.specs.BTreeMap.{is_at}
use Rattle.std.specs.List.{list_any, filter_map}
use Rattle.std.specs.List.Sorted.{IsStrictlySortedBy}
use Rattle.std.specs.Map.{values_of}
use Rattle.std.specs.Option.{option_or}
use Rattle.std.specs.Str.{bytes_eq}
use Rattle.jl_versions.specs.Order.{version_cmp}
use Rattle.jl_versions.specs.declared.version.Version.{Version}
use Rattle.compat_spec.specs.Ranges.{Ranged}
use Rattle.compat_spec.specs.declared.allowed.Allowed.{Allowed}
use Rattle.manifest_file.specs.declared.origin.Origin.TheVariants.{Tree}
use Rattle.package_tables.specs.Row.{value_of, julia_id}
use Rattle.package_tables.specs.declared.package_rows.VersionRow.{VersionRow}
use Rattle.registry_tables.specs.Rows.{Rows}
use Rattle.offer_terms.specs.Offered.{Text, Id, Exts, Allows, allows, of_ranges, Offering}
use Rattle.registered_offers.specs.Merged.{ListedVersion, merged}
use Rattle.registered_offers.specs.SaidRow.{deps_of, weak_of, compat_of}
use Rattle.package_offers.specs.TreeExts.{TreeExts}

-- the versions that a package is pinned to
abbrev pub pinned_of : Id → List (Id × Version) → List Version
pinned_of uuid pins = map (λ p. p.1) (filter (λ p. bytes_eq p.0 uuid) pins)

-- a yanked version is offered only where it is pinned
abbrev pub is_offered : List Version → VersionRow → Bool
is_offered pinned row = not row.yanked || list_any (is_at (version_cmp row.version)) pinned

-- another package than the project's own
abbrev pub is_other : Option Id → Id → Bool
is_other None id = true
is_other (Some own) id = not (bytes_eq own id)

-- dependencies on other packages than the project's own
abbrev pub others : Option Id → List (Text × Id) → List (Text × Id)
others own ids = filter (λ p. is_other own p.1) ids

-- what compat on a name speaks of: Julia for `julia`, else the dependency of that name
abbrev pub compat_on : List (Text × Id) → List (Text × Id) → Text → Option Id
compat_on deps weak name = if bytes_eq name (codes "julia") then Some julia_id else option_or (value_of name deps) (value_of name weak)

abbrev pub compat_entry : List (Text × Id) → List (Text × Id) → Text × List Ranged → Option (Id × Allows)
compat_entry deps weak entry = option_map (λ id. (id, of_ranges entry.1)) (compat_on deps weak entry.0)

-- compat by identifiers; on any other name it is ignored
abbrev pub compat_ids : List (Text × Id) → List (Text × Id) → List (Text × List Ranged) → List (Id × Allows)
compat_ids deps weak entries = filter_map (compat_entry deps weak) entries

-- the extensions that are known of a tree
abbrev pub extensions_of : Option TreeExts → List ℕ → Exts
extensions_of None tree = []
extensions_of (Some known) tree = if bytes_eq known.tree tree then known.extensions else []

-- what is offered of a version, from its dependencies and weak dependencies
abbrev pub offering_with : Option TreeExts → VersionRow → List (Text × Id) → List (Text × Id) → List (Text × List Ranged) → Offering
offering_with known row deps weak compat = record {
  version = row.version;
  deps = deps;
  weak = weak;
  compat = compat_ids deps weak compat;
  origin = Tree row.tree;
  extensions = extensions_of known row.tree;
}

-- what is offered of a listed version
abbrev pub offering_of : Option Id → Option TreeExts → ListedVersion → Offering
offering_of own known listed =
    offering_with known listed.0 (others own (deps_of listed.1 listed.0.version)) (others own (weak_of listed.1 listed.0.version)) (compat_of listed.1 listed.0.version)

-- the offers of a package, from its tables in the registries that list it
abbrev pub registry_offers : Id → Option Id → List (Id × Version) → Option TreeExts → List Rows → List Offering
registry_offers uuid own pins known tables = map (offering_of own known) (filter (λ listed. is_offered (pinned_of uuid pins) listed.0) (values_of (merged tables)))

-- the offers rise by their versions
abbrev pub OffersRise : Type 0
OffersRise = (uuid : Id) (own : Option Id) (pins : List (Id × Version)) (known : Option TreeExts) (tables : List Rows)
    → IsStrictlySortedBy version_cmp (map (λ x. x.version) (registry_offers uuid own pins known tables))

-- compat by identifiers, from a row that was made
abbrev pub made_entry : List (Text × Id) → List (Text × Id) → Text × Allowed → Option (Id × Allows)
made_entry deps weak entry = option_map (λ id. (id, allows entry.1)) (compat_on deps weak entry.0)

abbrev pub made_compat : List (Text × Id) → List (Text × Id) → List (Text × Allowed) → List (Id × Allows)
made_compat deps weak entries = filter_map (made_entry deps weak) entries
