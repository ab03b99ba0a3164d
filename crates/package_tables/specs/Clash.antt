-- A clash in a table with sections (own rule): two sections hold one version and give one name different values. It is
-- looked for at the first listed version, the least where versions rise, and there at the least name by its bytes. It
-- carries the entry of the first section that gives the version the name, and the first later one whose value differs.
-- ClashLaws says this without the groups and loops below.
--     clash_in same versions entries     the clash of a table, where there is one
use Rattle.std.specs.Prelude.{ℕ, Bool, true, false, not, ◌&&◌, if◌then◌else◌, List, [], ◌∷◌, ◌++◌, map, filter, fold, find, Option, Some, None, option_map}
use Rattle.std.specs.List.{flat_map, list_any}
use Rattle.std.specs.Option.{unwrap_or}
use Rattle.std.specs.BTreeMap.{insert_entry}
use Rattle.std.specs.Str.{bytes_eq}
use Rattle.uuid.specs.Text.{hyphenated_text, lower}
use Rattle.jl_versions.specs.Printing.{printed}
use Rattle.jl_versions.specs.declared.version.Version.{Version}
use Rattle.compat_spec.specs.Ranges.{Ranged}
use Rattle.pkg_world.specs.declared.cause.Cause as causes
use Rattle.pkg_world.specs.declared.cause.Cause.TheVariants as cause
use Rattle.package_tables.specs.Row.{holds, by_bytes, value_of}
use Rattle.package_tables.specs.declared.package_rows.Entry.{Entry}
use Rattle.package_tables.specs.declared.package_rows.VersionRow.{VersionRow}

-- ---- entries by name

-- an entry behind those of its name
abbrev pub joining : {T : Type 0} → List (List ℕ × List (Entry T)) → Entry T → List (List ℕ × List (Entry T))
joining groups entry = insert_entry by_bytes groups entry.name (unwrap_or (value_of entry.name groups) [] ++ entry ∷ [])

-- the entries of each name in their order, the names by their bytes
abbrev pub grouped : {T : Type 0} → List (Entry T) → List (List ℕ × List (Entry T))
grouped entries = fold joining [] entries

-- whether a name has several values: no other name can clash
abbrev pub is_varied : {T : Type 0} → (T → T → Bool) → List (Entry T) → Bool
is_varied same [] = false
is_varied same (first ∷ entries) = list_any (λ e. not (same first.value e.value)) entries

-- the entries of each name that has several values
abbrev pub groups : {T : Type 0} → (T → T → Bool) → List (Entry T) → List (List (Entry T))
groups same entries = filter (is_varied same) (map (λ g. g.1) (grouped entries))

-- ---- the clash

module _ {T : Type 0} (same : T → T → Bool) where
  -- the first later entry that gives the version another value
  abbrev pub other_value : Version → Entry T → List (Entry T) → Option (Entry T)
  other_value v first entries = find (λ e. holds v e && not (same first.value e.value)) entries

  -- of the entries of one name the first that holds the version, and the first later one that differs
  abbrev pub differing : Version → List (Entry T) → Option (Entry T × Entry T)
  differing v [] = None
  differing v (first ∷ entries) = if holds v first then option_map (λ e. (first, e)) (other_value v first entries) else differing v entries

abbrev pub or_later : {A : Type 0} → Option A → Option A → Option A
or_later None later = later
or_later (Some found) later = Some found

-- a version, and two entries that give it different values
abbrev pub Clashing : Type 0 → Type 0
Clashing T = Version × Entry T × Entry T

module _ {T : Type 0} (same : T → T → Bool) where
  -- the least name that clashes at a version
  abbrev pub clash_at : Version → List (List (Entry T)) → Option (Entry T × Entry T)
  clash_at v [] = None
  clash_at v (group ∷ more) = or_later (differing same v group) (clash_at v more)

  -- the first listed version at which a name clashes
  abbrev pub clash_among : List VersionRow → List (List (Entry T)) → Option (Clashing T)
  clash_among [] gs = None
  clash_among (row ∷ rows) gs = or_later (option_map (λ p. (row.version, p.0, p.1)) (clash_at row.version gs)) (clash_among rows gs)

  abbrev pub clash_in : List VersionRow → List (Entry T) → Option (Clashing T)
  clash_in rows entries = clash_among rows (groups same entries)

-- ---- values

-- identifiers are compared as numbers, and printed with hyphens in lower case
abbrev pub same_id : List ℕ → List ℕ → Bool
same_id = bytes_eq

abbrev pub id_text : List ℕ → List ℕ
id_text id = hyphenated_text lower id

-- ranges are compared as the list of their texts
abbrev pub same_ranges : List Ranged → List Ranged → Bool
same_ranges [] [] = true
same_ranges [] (s ∷ ss) = false
same_ranges (r ∷ rs) [] = false
same_ranges (r ∷ rs) (s ∷ ss) = bytes_eq r.text s.text && same_ranges rs ss

-- and printed as these texts, joined by commas
abbrev pub ranges_text : List Ranged → List ℕ
ranges_text [] = []
ranges_text (r ∷ rs) = r.text ++ flat_map (λ s. 44 ∷ s.text) rs

-- ---- the cause

abbrev pub clash_cause : {T : Type 0} → (T → List ℕ) → Clashing T → causes.Cause
clash_cause text (v, first, other) = cause.Clash first.name (printed v) (text first.value) (text other.value)
