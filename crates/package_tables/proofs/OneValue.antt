-- Tables without a clash give a version one value of each name.
use Rattle.std.proofs.Common.{◌≡◌, ℕ, Bool, true, false, List, [], ◌∷◌, ◌++◌, map, Result, Ok, Err, refl, sym, ap, subst, ◌∙◌, inl, inr}
use Rattle.std.specs.List.{AllByRecursion}
use Rattle.std.specs.Str.{bytes_eq}
use Rattle.std.proofs.lemmas.Bool.{true≢false, and_parts}
use Rattle.std.proofs.lemmas.Slice.Eq.{bytes_eq-Decides}
use Rattle.toml.specs.Data.{Data, Members, no_members, member, as_table}
use Rattle.toml_view.specs.Reading.{at, chained, mapped, or_shape, each, table_of, texts_of}
use Rattle.toml_view.specs.declared.refusal.Refusal.{Refusal}
use Rattle.jl_versions.specs.declared.version.Version.{Version}
use Rattle.compat_spec.specs.Meant.{range_meant}
use Rattle.compat_spec.specs.Ranges.{Bounds, Ranged}
use Rattle.package_tables.specs.Clash.{same_id, same_ranges}
use Rattle.package_tables.specs.ClashLaws.{IsClear, IsRead, AreRead, RangesAreRead, ClearIdsAreOne, ClearRangesAreOne}
use Rattle.package_tables.specs.RowLaws.{IsGiven}
use Rattle.package_tables.specs.Sections.{or_range, range_at, ranges_at, ranges_of, entry_in, section_of, sections_of}
use Rattle.package_tables.specs.declared.package_rows.Entry.{Entry}
use Rattle.package_tables.proofs.Among.{Among, contains_among}

ok_same : {A B : Type 0} (r : Result A B) (a b : A) → r ≡ Ok a → r ≡ Ok b → a ≡ b
ok_same r a b e f = cc

-- ---- one value

all_at : {X : Type 0} (P : X → Type 0) (xs : List X) (x : X) → AllByRecursion P xs → Among x xs → P x
all_at P [] x all never = absurd never
all_at P (y ∷ ys) x all (inl is) = subst P is all.0
all_at P (y ∷ ys) x all (inr later) = all_at P ys x all.1 later

ranges_same : (rs ss : List Ranged) → AllByRecursion IsRead rs → AllByRecursion IsRead ss → same_ranges rs ss ≡ true → rs ≡ ss
ranges_same [] [] a b e = refl
ranges_same [] (s ∷ ss) a b e = absurd (true≢false (sym e))
ranges_same (r ∷ rs) [] a b e = absurd (true≢false (sym e))
ranges_same (r ∷ rs) (s ∷ ss) a b e =
    let (here, rest) = and_parts (bytes_eq r.text s.text) (same_ranges rs ss) e in
    let texts : r.text ≡ s.text = (bytes_eq-Decides r.text s.text).0 here in
    let bounds : r.bounds ≡ s.bounds = ok_same (range_meant s.text) r.bounds s.bounds (ap range_meant (sym texts) ∙ a.0) b.0 in
    let others : rs ≡ ss = ranges_same rs ss a.1 b.1 rest in
    λ i. record { text = texts i; bounds = bounds i } ∷ others i

module _ {T : Type 0} (same : T → T → Bool) (v : Version) (entries : List (Entry T)) (clear : IsClear same entries v) where
  must_agree : (name : List ℕ) (one other : T) → IsGiven v entries name one → IsGiven v entries name other → same one other ≡ true
  must_agree name one other a b =
      elim (same one other) as (λ s. same one other ≡ s → s ≡ true) [
        | true ↦ λ _. refl
        | false ↦ λ differ. absurd (clear name (record { one = one; other = other; one_given = a; other_given = b; differ = differ }))
      ] refl

pub clear_ids_are_one : ClearIdsAreOne
clear_ids_are_one entries v clear name one other a b = (bytes_eq-Decides one other).0 (must_agree same_id v entries clear name one other a b)

pub clear_ranges_are_one : ClearRangesAreOne
clear_ranges_are_one entries v are_read clear name one other a b =
    ranges_same one other (read_at one a) (read_at other b) (must_agree same_ranges v entries clear name one other a b)
  where
    read_at : (value : List Ranged) → IsGiven v entries name value → AllByRecursion IsRead value
    read_at value given = subst (AllByRecursion IsRead) given.its_value (all_at (λ e. AllByRecursion IsRead e.value) entries given.entry are_read (contains_among entries given.entry given.stands))

-- ---- what was read

err_ok : {S T : Type 0} (refusal : S) (value : T) → Err refusal ≡ Ok value → ⊥
err_ok refusal value e = cc

went_on : {S T : Type 0} (f : S → Result T Refusal) (r : Result S Refusal) (y : T) → chained f r ≡ Ok y → (x : S) × (r ≡ Ok x) × (f x ≡ Ok y)
went_on f (Ok x) y e = (x, refl, e)
went_on f (Err refusal) y e = absurd (err_ok refusal y e)

was_mapped : {S T : Type 0} (f : S → T) (r : Result S Refusal) (y : T) → mapped f r ≡ Ok y → (x : S) × (r ≡ Ok x) × (f x ≡ y)
was_mapped f (Ok x) y e = (x, refl, ok_same (mapped f (Ok x)) (f x) y refl e)
was_mapped f (Err refusal) y e = absurd (err_ok refusal y e)

was_at : {T : Type 0} (key : List ℕ) (r : Result T Refusal) (y : T) → at key r ≡ Ok y → r ≡ Ok y
was_at key (Ok x) y e = e
was_at key (Err refusal) y e = absurd (err_ok _ y e)

range_read : (text : List ℕ) (meant : Result Bounds ℕ) (range : Ranged) → range_meant text ≡ meant → or_range text meant ≡ Ok range → IsRead range
range_read text (Ok bounds) range e is = subst IsRead (ok_same (or_range text (Ok bounds)) (record { text = text; bounds = bounds }) range refl is) e
range_read text (Err place) range e is = absurd (err_ok _ range is)

ranges_read : (texts : List (List ℕ)) (ranges : List Ranged) → ranges_at texts ≡ Ok ranges → AllByRecursion IsRead ranges
ranges_read [] ranges e = subst (AllByRecursion IsRead) (ok_same (ranges_at []) [] ranges refl e) tt
ranges_read (text ∷ more) ranges e =
    let (range, here, next) = went_on (λ range. mapped (λ ranges. range ∷ ranges) (ranges_at more)) (range_at text) ranges e in
    let (others, rest, is) = was_mapped (λ ranges. range ∷ ranges) (ranges_at more) ranges next in
    subst (AllByRecursion IsRead) is (range_read text (range_meant text) range refl here, ranges_read more others rest)

value_read : (value : Data) (ranges : List Ranged) → ranges_of value ≡ Ok ranges → AllByRecursion IsRead ranges
value_read value ranges e = let (texts, here, next) = went_on ranges_at (texts_of value) ranges e in ranges_read texts ranges next

abbrev ReadPairs : List (List ℕ × List Ranged) → Type 0
ReadPairs pairs = AllByRecursion (λ (p : List ℕ × List Ranged). AllByRecursion IsRead p.1) pairs

each_read : (members : Members) (pairs : List (List ℕ × List Ranged)) → each ranges_of members ≡ Ok pairs → ReadPairs pairs
each_read no_members pairs e = subst ReadPairs (ok_same (each ranges_of no_members) [] pairs refl e) tt
each_read (member key value more) pairs e =
    let (ranges, here, next) = went_on (λ v. mapped (λ vs. (key, v) ∷ vs) (each ranges_of more)) (at key (ranges_of value)) pairs e in
    let (others, rest, is) = was_mapped (λ vs. (key, ranges) ∷ vs) (each ranges_of more) pairs next in
    subst ReadPairs is (value_read value ranges (was_at key (ranges_of value) ranges here), each_read more others rest)

entries_read : (section : Ranged) (pairs : List (List ℕ × List Ranged)) → ReadPairs pairs → AreRead (map (entry_in section) pairs)
entries_read section [] all = tt
entries_read section (p ∷ pairs) all = (all.0, entries_read section pairs all.1)

joined_read : (xs ys : List (Entry (List Ranged))) → AreRead xs → AreRead ys → AreRead (xs ++ ys)
joined_read [] ys a b = b
joined_read (x ∷ xs) ys a b = (a.0, joined_read xs ys a.1 b)

section_read : (heading : List ℕ) (value : Data) (entries : List (Entry (List Ranged))) → section_of ranges_of heading value ≡ Ok entries → AreRead entries
section_read heading value entries e =
    let (section, here, next) = went_on (λ section. mapped (map (entry_in section)) (table_of ranges_of value)) (range_at heading) entries e in
    let (pairs, there, is) = was_mapped (map (entry_in section)) (table_of ranges_of value) entries next in
    let (members, is_table, all) = went_on (each ranges_of) (or_shape (as_table value)) pairs there in
    subst AreRead is (entries_read section pairs (each_read members pairs all))

pub sections_read : RangesAreRead
sections_read no_members entries e = subst AreRead (ok_same (sections_of ranges_of no_members) [] entries refl e) tt
sections_read (member heading value more) entries e =
    let (first, here, next) = went_on (λ entries. mapped (λ rest. entries ++ rest) (sections_of ranges_of more)) (at heading (section_of ranges_of heading value)) entries e in
    let (others, rest, is) = was_mapped (λ rest. first ++ rest) (sections_of ranges_of more) entries next in
    subst AreRead is (joined_read first others (section_read heading value first (was_at heading (section_of ranges_of heading value) first here)) (sections_read more others rest))
