-- What is true of a clash: there is none exactly where no listed version has two values of one name; else it is that of the
-- first listed version that has, there of the least such name, and carries the first entry of that name and the first whose
-- value differs.
use Rattle.std.specs.Prelude.{◌≡◌, ◌↔◌, ℕ, Bool, false, not, ◌&&◌, List, ◌∷◌, ◌++◌, find, All, Some, None, Ok}
use Rattle.std.specs.List.{AllByRecursion}
use Rattle.std.specs.Ordering.{is_eq}
use Rattle.std.specs.declared.cmp.Ordering.TheVariants.{Less}
use Rattle.toml.specs.Data.{Members}
use Rattle.compat_spec.specs.Meant.{range_meant}
use Rattle.compat_spec.specs.Ranges.{Ranged}
use Rattle.jl_versions.specs.declared.version.Version.{Version}
use Rattle.package_tables.specs.Row.{holds, by_bytes}
use Rattle.package_tables.specs.RowLaws.{IsGiven, HasOneValue}
use Rattle.package_tables.specs.Sections.{sections_of, ranges_of}
use Rattle.package_tables.specs.Clash.{Clashing, clash_in, same_id, same_ranges}
use Rattle.package_tables.specs.declared.package_rows.Entry.{Entry}
use Rattle.package_tables.specs.declared.package_rows.VersionRow.{VersionRow}

-- sections that hold the version give the name two values
pub record Clashes {T : Type 0} (same : T → T → Bool) (v : Version) (entries : List (Entry T)) (name : List ℕ) : Type 0 where
  pub one : T
  pub other : T
  pub one_given : IsGiven v entries name one
  pub other_given : IsGiven v entries name other
  pub differ : same one other ≡ false

-- the version has no name with two values
abbrev pub IsClear : {T : Type 0} → (T → T → Bool) → List (Entry T) → Version → Type 0
IsClear same entries v = (name : List ℕ) → Clashes same v entries name → ⊥

-- whether the entry counts for the version and has the name
abbrev pub speaks_of : {T : Type 0} → Version → List ℕ → Entry T → Bool
speaks_of v name entry = is_eq (by_bytes name entry.name) && holds v entry

-- the first clash of the listed versions
pub record IsFirstClash {T : Type 0} (same : T → T → Bool) (versions : List VersionRow) (entries : List (Entry T)) (clash : Clashing T) : Type 0 where
  pub earlier : List VersionRow
  pub row : VersionRow
  pub later : List VersionRow
  pub listed : versions ≡ earlier ++ row ∷ later
  pub its_version : clash.0 ≡ row.version
  pub clear : All (λ r. IsClear same entries r.version) earlier
  pub least : (name : List ℕ) → Clashes same clash.0 entries name → by_bytes name clash.1.name ≡ Less → ⊥
  pub first : find (speaks_of clash.0 clash.1.name) entries ≡ Some clash.1
  pub other : find (λ e. speaks_of clash.0 clash.1.name e && not (same clash.1.value e.value)) entries ≡ Some clash.2

-- a range has the bounds that its text means
abbrev pub IsRead : Ranged → Type 0
IsRead range = range_meant range.text ≡ Ok range.bounds

abbrev pub AreRead : List (Entry (List Ranged)) → Type 0
AreRead entries = AllByRecursion (λ e. AllByRecursion IsRead e.value) entries

-- entries that were read are of such ranges
abbrev pub RangesAreRead : Type 0
RangesAreRead = (members : Members) (entries : List (Entry (List Ranged))) → sections_of ranges_of members ≡ Ok entries → AreRead entries

-- without a clash each name has one value
abbrev pub ClearIdsAreOne : Type 0
ClearIdsAreOne = (entries : List (Entry (List ℕ))) (v : Version) → IsClear same_id entries v → HasOneValue v entries

abbrev pub ClearRangesAreOne : Type 0
ClearRangesAreOne = (entries : List (Entry (List Ranged))) (v : Version) → AreRead entries → IsClear same_ranges entries v → HasOneValue v entries

abbrev pub NoClash : {T : Type 0} → (T → T → Bool) → Type 0
NoClash {T} same = (versions : List VersionRow) (entries : List (Entry T)) → (clash_in same versions entries ≡ None) ↔ All (λ row. IsClear same entries row.version) versions

abbrev pub ClashIsFirst : {T : Type 0} → (T → T → Bool) → Type 0
ClashIsFirst {T} same = (versions : List VersionRow) (entries : List (Entry T)) (clash : Clashing T) → clash_in same versions entries ≡ Some clash → IsFirstClash same versions entries clash
