-- What each table of a package gives, or the cause for which it is refused: its first refusal in key order, and for a
-- table with sections then a clash for a listed version.
--     version_rows members             the versions of Versions.toml
--     id_entries versions members      the entries of Deps.toml or WeakDeps.toml
--     range_entries versions members   the entries of Compat.toml or WeakCompat.toml
use Rattle.std.specs.Prelude.{◌≡◌, ℕ, Bool, List, map, Option, Some, None, option_map, Result, Ok, Err, MatchResult}
use Rattle.toml.specs.Data.{Data, Members}
use Rattle.toml_view.specs.Causes.{caused, then_read, Halts}
use Rattle.toml_view.specs.Reading.{uuid_of}
use Rattle.toml_view.specs.declared.halt.Halt.{Halt}
use Rattle.toml_view.specs.declared.refusal.Refusal.{Refusal}
use Rattle.pkg_world.specs.Listing.{Listing}
use Rattle.pkg_world.specs.declared.cause.Cause.{Cause}
use Rattle.compat_spec.specs.Listing.{Listing as Room}
use Rattle.compat_spec.specs.Ranges.{Ranged}
use Rattle.package_tables.specs.Clash.{clash_in, clash_cause, same_id, id_text, same_ranges, ranges_text}
use Rattle.package_tables.specs.Sections.{sections_of, ranges_of, versions_of, bare}
use Rattle.package_tables.specs.declared.package_rows.Entry.{Entry}
use Rattle.package_tables.specs.declared.package_rows.VersionRow.{VersionRow}

abbrev pub version_rows : Members → Result (List VersionRow) Cause
version_rows members = caused (versions_of members)

-- why entries are refused of which two clash
abbrev pub clash_of : {T : Type 0} → (T → List ℕ) → (T → T → Bool) → List VersionRow → List (Entry T) → Option Cause
clash_of text same versions entries = option_map (clash_cause text) (clash_in same versions entries)

-- the entries, unless two of them clash
abbrev pub unless_clash : {T : Type 0} → Option Cause → List (Entry T) → Result (List (Entry T)) Cause
unless_clash None entries = Ok entries
unless_clash (Some cause) entries = Err cause

-- the entries of a table with sections; a clash comes after its other refusals
abbrev pub entries_of : {T : Type 0} → (Data → Result T Refusal) → (List (Entry T) → Option Cause) → Members → Result (List (Entry T)) Cause
entries_of read clash members = then_read (caused (sections_of read members)) (λ entries. unless_clash (clash entries) entries)

abbrev pub id_entries : List VersionRow → Members → Result (List (Entry (List ℕ))) Cause
id_entries versions members = entries_of uuid_of (clash_of id_text same_id versions) members

abbrev pub range_entries : List VersionRow → Members → Result (List (Entry (List Ranged))) Cause
range_entries versions members = entries_of ranges_of (clash_of ranges_text same_ranges versions) members

-- what the answers tell, without the room of their lists
abbrev pub GivesList : {T : Type 0} → Result (List T) Cause → Result (Listing T) Halt → Type 0
GivesList reading answer = MatchResult answer (λ list. reading ≡ Ok list.items) (Halts reading)

abbrev pub GivesRanges : Result (List (Entry (List Ranged))) Cause → Result (Listing (Entry (Room Ranged))) Halt → Type 0
GivesRanges reading answer = MatchResult answer (λ list. reading ≡ Ok (map bare list.items)) (Halts reading)
