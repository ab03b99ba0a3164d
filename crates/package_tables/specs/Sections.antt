-- What stands in the tables of a package (Pkg, registries). A section of a table is headed by a range, and gives names
-- values; a reading is a function of the value, as in toml_view's Reading, and stops at the first refusal in key order.
--     sections_of read members      the entries of all sections, in the order of the headings' bytes and then of the names'
--     versions_of members           the listed versions, in rising order
--     package_of name uuid members  whether a table is that of this package
use Rattle.std.specs.Prelude.{◌≡◌, ℕ, false, List, [], ◌∷◌, ◌++◌, map, codes, Some, None, Result, Ok, Err, if◌then◌else◌, MatchResult}
use Rattle.std.specs.List.{list_any}
use Rattle.std.specs.Option.{unwrap_or}
use Rattle.std.specs.Ordering.{is_eq}
use Rattle.std.specs.Str.{bytes_eq}
use Rattle.toml.specs.Data.{Data, Members, no_members, member, as_table}
use Rattle.jl_versions.specs.Meant.{version_meant}
use Rattle.jl_versions.specs.Order.{version_cmp}
use Rattle.jl_versions.specs.declared.version.Version.{Version}
use Rattle.compat_spec.specs.Listing.{Listing}
use Rattle.compat_spec.specs.Ranges.{Bounds, Ranged}
use Rattle.compat_spec.specs.Meant.{range_meant}
use Rattle.pkg_world.specs.Each.{onto}
use Rattle.toml_view.specs.Reading.{at, or_shape, or_version, chained, mapped, text_of, uuid_of, tree_id_of, flag_of, texts_of, table_of, opt, need}
use Rattle.toml_view.specs.Answers.{Refuses}
use Rattle.toml_view.specs.declared.refusal.Flaw.TheVariants.{Spec}
use Rattle.toml_view.specs.declared.refusal.Refusal.{Refusal}
use Rattle.toml_view.specs.declared.refusal.Stop.{Stop}
use Rattle.package_tables.specs.Row.{put_to}
use Rattle.package_tables.specs.declared.package_rows.Entry.{Entry}
use Rattle.package_tables.specs.declared.package_rows.VersionRow.{VersionRow}
use Rattle.package_tables.specs.declared.versions.Mark.{Mark}

-- ---- sections

-- a range with its text, or the first bad place of the text
abbrev pub or_range : List ℕ → Result Bounds ℕ → Result Ranged Refusal
or_range text (Ok bounds) = Ok (record { text = text; bounds = bounds })
or_range text (Err place) = Err (record { path = None; flaw = Spec place })

abbrev pub range_at : List ℕ → Result Ranged Refusal
range_at text = or_range text (range_meant text)

-- the ranges of a compat entry: a text alone or a list of texts, each a range
abbrev pub ranges_at : List (List ℕ) → Result (List Ranged) Refusal
ranges_at [] = Ok []
ranges_at (text ∷ more) = chained (λ range. mapped (λ ranges. range ∷ ranges) (ranges_at more)) (range_at text)

abbrev pub ranges_of : Data → Result (List Ranged) Refusal
ranges_of value = chained ranges_at (texts_of value)

abbrev pub entry_in : {T : Type 0} → Ranged → List ℕ × T → Entry T
entry_in section pair = record { section = section; name = pair.0; value = pair.1 }

-- one section: its heading, which is tested first, and what it gives the names
abbrev pub section_of : {T : Type 0} → (Data → Result T Refusal) → List ℕ → Data → Result (List (Entry T)) Refusal
section_of read heading value = chained (λ section. mapped (map (entry_in section)) (table_of read value)) (range_at heading)

abbrev pub sections_of : {T : Type 0} → (Data → Result T Refusal) → Members → Result (List (Entry T)) Refusal
sections_of read no_members = Ok []
sections_of read (member heading value more) = chained (λ entries. mapped (λ rest. entries ++ rest) (sections_of read more)) (at heading (section_of read heading value))

-- an entry without the room of its list of ranges
abbrev pub bare : Entry (Listing Ranged) → Entry (List Ranged)
bare entry = record { section = entry.section; name = entry.name; value = entry.value.items }

-- ---- versions

abbrev pub mark_of_members : Members → Result Mark Refusal
mark_of_members members =
    chained (λ tree. mapped (λ yanked. record { tree = tree; yanked = unwrap_or yanked false }) (opt flag_of (codes "yanked") members)) (need tree_id_of (codes "git-tree-sha1") members)

abbrev pub mark_of : Data → Result Mark Refusal
mark_of value = chained mark_of_members (or_shape (as_table value))

-- a version that no earlier key reads as
abbrev pub new_version : List Version → Version → Result Version Refusal
new_version earlier v = or_shape (if list_any (λ w. is_eq (version_cmp v w)) earlier then None else Some v)

-- a key of the table and what stands there: the key's text, then whether an earlier key reads as the same, then the value
abbrev pub marked : List Version → List ℕ → Data → Result (Version × Mark) Refusal
marked earlier key value = chained (λ v. mapped (λ mark. (v, mark)) (mark_of value)) (chained (new_version earlier) (or_version (version_meant key)))

-- the versions in the order of the keys' bytes, behind earlier ones
abbrev pub all_marked : List Version → Members → Result (List (Version × Mark)) Refusal
all_marked earlier no_members = Ok []
all_marked earlier (member key value more) = chained (λ p. mapped (λ ps. p ∷ ps) (all_marked (earlier ++ p.0 ∷ []) more)) (at key (marked earlier key value))

abbrev pub version_row : Version × Mark → VersionRow
version_row p = record { version = p.0; tree = p.1.tree; yanked = p.1.yanked }

-- versions in rising order
abbrev pub rising : List (Version × Mark) → List VersionRow
rising pairs = map version_row (put_to version_cmp [] pairs)

abbrev pub versions_of : Members → Result (List VersionRow) Refusal
versions_of members = mapped rising (all_marked [] members)

-- ---- the package

abbrev pub same_text : List ℕ → List ℕ → Result (Unit {0}) Refusal
same_text wanted found = or_shape (if bytes_eq found wanted then Some tt else None)

abbrev pub that_name : List ℕ → Data → Result (Unit {0}) Refusal
that_name name value = chained (same_text name) (text_of value)

abbrev pub that_uuid : List ℕ → Data → Result (Unit {0}) Refusal
that_uuid uuid value = chained (same_text uuid) (uuid_of value)

-- the name and the identifier are those of the registry
abbrev pub package_of : List ℕ → List ℕ → Members → Result (Unit {0}) Refusal
package_of name uuid members = chained (λ _. need (that_uuid uuid) (codes "uuid") members) (need (that_name name) (codes "name") members)

-- ---- answers

-- what was read stands behind the items, or the reading's refusal
abbrev pub Pushes : {T : Type 0} → List T → List T → Result (List T) Refusal → Result (Unit {0}) Stop → Type 0
Pushes old new reading answer = MatchResult answer (λ _. onto old reading ≡ Ok new) (λ stop. Refuses stop reading)

-- what a stopped reading tells
abbrev pub Gives : {T : Type 0} → Result T Stop → Result T Refusal → Type 0
Gives answer reading = MatchResult answer (λ value. reading ≡ Ok value) (λ stop. Refuses stop reading)
