-- What is found among versions that were put in order, and that they rise.
use Rattle.std.proofs.Common.{◌≡◌, Bool, true, false, cond, List, [], ◌∷◌, map, fold, find, Option, Some, None, option_map, is_some, refl, sym, ap, ◌∙◌}
use Rattle.std.specs.BTreeMap.{insert_entry, is_at}
use Rattle.std.specs.List.{AllByRecursion}
use Rattle.std.specs.List.Sorted.{IsStrictlySortedBy}
use Rattle.std.specs.Map.{lookup, keys_of}
use Rattle.std.specs.Option.{option_or}
use Rattle.std.specs.Ordering.{is_eq, match_ordering}
use Rattle.std.specs.declared.cmp.Ordering.TheVariants.{Less, Equal, Greater}
use Rattle.jl_versions.specs.Order.{version_cmp}
use Rattle.jl_versions.specs.OrderLaws.{version_total, equal_is_same}
use Rattle.jl_versions.specs.declared.version.Version.{Version}
use Rattle.registry_tables.specs.Rows.{Rows}
use Rattle.registry_tables.proofs.Ordered.{or_none, or_assoc, found-put, sorted-insert}
use Rattle.package_tables.specs.declared.package_rows.VersionRow.{VersionRow}
use Rattle.registered_offers.specs.Merged.{ListedVersion, ListedVersions, listed_version, put_version, put_versions}
use Rattle.registered_offers.specs.MergedLaws.{row_in, first_row, FirstRowCounts, VersionsRise, RowsAreOfTheirVersions}

-- ---- the versions of tables

abbrev found : Version → ListedVersions → Option ListedVersion
found v versions = lookup (is_at (version_cmp v)) versions

-- a version's row, if this is one
abbrev row_at : Version → ListedVersion → Option ListedVersion
row_at v one = cond (is_eq (version_cmp v one.0.version)) (Some one) None

found-step : (v : Version) (versions : ListedVersions) (one : ListedVersion) → found v (put_version versions one) ≡ option_or (found v versions) (row_at v one)
found-step v versions one = found-put version_cmp version_total v one.0.version one versions

row-first : (v : Version) (rows : Rows) (row : VersionRow) (more : List VersionRow) (b : Bool)
    → option_or (cond b (Some (listed_version rows row)) None) (option_map (listed_version rows) (find (λ r. is_eq (version_cmp v r.version)) more))
    ≡ option_map (listed_version rows) (cond b (Some row) (find (λ r. is_eq (version_cmp v r.version)) more))
row-first v rows row more true = refl
row-first v rows row more false = refl

found-rows : (v : Version) (rows : Rows) (versions : ListedVersions) (list : List VersionRow)
    → found v (fold put_version versions (map (listed_version rows) list)) ≡ option_or (found v versions) (option_map (listed_version rows) (find (λ r. is_eq (version_cmp v r.version)) list))
found-rows v rows versions [] = sym (or_none (found v versions))
found-rows v rows versions (row ∷ more) =
    found-rows v rows (put_version versions (listed_version rows row)) more
    ∙ ap (λ o. option_or o (option_map (listed_version rows) (find (λ r. is_eq (version_cmp v r.version)) more))) (found-step v versions (listed_version rows row))
    ∙ or_assoc (found v versions) (row_at v (listed_version rows row)) (option_map (listed_version rows) (find (λ r. is_eq (version_cmp v r.version)) more))
    ∙ ap (option_or (found v versions)) (row-first v rows row more (is_eq (version_cmp v row.version)))

found-tables : (v : Version) (versions : ListedVersions) (tables : List Rows) → found v (fold put_versions versions tables) ≡ option_or (found v versions) (first_row v tables)
found-tables v versions [] = sym (or_none (found v versions))
found-tables v versions (rows ∷ more) =
    found-tables v (put_versions versions rows) more
    ∙ ap (λ o. option_or o (first_row v more)) (found-rows v rows versions rows.versions)
    ∙ or_assoc (found v versions) (option_map (listed_version rows) (row_in v rows)) (first_row v more)

pub first-row-counts : FirstRowCounts
first-row-counts tables v = found-tables v [] tables

-- what every step keeps
module _ (P : ListedVersions → Type 0) (step : (versions : ListedVersions) (one : ListedVersion) → P versions → P (insert_entry version_cmp versions one.0.version one)) where
  kept-put : (versions : ListedVersions) (one : ListedVersion) (b : Bool) → P versions → P (cond b versions (insert_entry version_cmp versions one.0.version one))
  kept-put versions one true h = h
  kept-put versions one false h = step versions one h

  kept-rows : (versions : ListedVersions) (ones : List ListedVersion) → P versions → P (fold put_version versions ones)
  kept-rows versions [] h = h
  kept-rows versions (one ∷ more) h = kept-rows (put_version versions one) more (kept-put versions one (is_some (found one.0.version versions)) h)

  kept-tables : (versions : ListedVersions) (tables : List Rows) → P versions → P (fold put_versions versions tables)
  kept-tables versions [] h = h
  kept-tables versions (rows ∷ more) h = kept-tables (put_versions versions rows) more (kept-rows versions (map (listed_version rows) rows.versions) h)

pub versions-rise : VersionsRise
unfolding IsStrictlySortedBy
versions-rise tables =
    kept-tables (λ versions. IsStrictlySortedBy version_cmp (keys_of versions)) (λ versions one rise. sorted-insert version_cmp version_total one.0.version one versions rise) [] tables tt

abbrev IsOwn : Version × ListedVersion → Type 0
IsOwn e = e.0 ≡ e.1.0.version

own-insert : (one : ListedVersion) (versions : ListedVersions) → AllByRecursion IsOwn versions → AllByRecursion IsOwn (insert_entry version_cmp versions one.0.version one)
own-insert one [] own = (refl, tt)
own-insert one (e ∷ es) own =
    elim (version_cmp one.0.version e.0) as (λ o. version_cmp one.0.version e.0 ≡ o
    → AllByRecursion IsOwn (match_ordering o ((one.0.version, one) ∷ e ∷ es) ((e.0, one) ∷ es) (e ∷ insert_entry version_cmp es one.0.version one))) [
      | Less ↦ λ _. (refl, own)
      | Equal ↦ λ tie. (sym ((equal_is_same one.0.version e.0).0 tie), own.1)
      | Greater ↦ λ _. (own.0, own-insert one es own.1)
    ] refl

pub rows-are-of-their-versions : RowsAreOfTheirVersions
rows-are-of-their-versions tables = kept-tables (AllByRecursion IsOwn) (λ versions one own. own-insert one versions own) [] tables tt
