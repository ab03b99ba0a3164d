-- The row of a version: what the sections whose ranges hold it say of its dependencies and compat (Pkg, registries; the
-- order of the lists and which entries are ignored are own rules). RowLaws says which names stand there with which value.
--     deps_of, weak_of, compat_of rows v     its dependencies, its weak dependencies and its compat, each in the order of names
use Rattle.std.specs.Prelude.{◌≡◌, ℕ, Bool, true, false, not, ◌&&◌, ◌||◌, List, [], ◌∷◌, ◌++◌, map, filter, fold, codes, Option, Some, None}
use Rattle.std.specs.Ordering.{nat_cmp, bool_cmp, ordering_then}
use Rattle.std.specs.declared.cmp.Ordering.{Ordering}
use Rattle.std.specs.Cmp.Lexicographic.{slice_cmp}
use Rattle.std.specs.Str.{bytes_eq}
use Rattle.std.specs.BTreeMap.{insert_entry, is_at}
use Rattle.std.specs.Map.{lookup}
use Rattle.jl_versions.specs.Triple.{triple_of}
use Rattle.jl_versions.specs.declared.version.Version.{Version}
use Rattle.compat_spec.specs.Listing.{Listing}
use Rattle.compat_spec.specs.Ranges.{Ranged}
use Rattle.compat_spec.specs.RangeMeaning.{range_holds}
use Rattle.compat_spec.specs.declared.allowed.Allowed.{Allowed}
use Rattle.compat_spec.specs.declared.allowed.Allowed.TheVariants as kinds
use Rattle.package_tables.specs.declared.package_rows.Entry.{Entry}
use Rattle.package_tables.specs.declared.package_rows.PackageRows.{PackageRows}
use Rattle.package_tables.specs.declared.expanding.Row.{Row}

-- whether an entry's section holds the version
abbrev pub holds : {T : Type 0} → Version → Entry T → Bool
holds v entry = range_holds entry.section (triple_of v)

abbrev pub named : {T : Type 0} → Entry T → List ℕ × T
named entry = (entry.name, entry.value)

-- the names and values of the entries whose sections hold the version
abbrev pub held : {T : Type 0} → Version → List (Entry T) → List (List ℕ × T)
held v entries = map named (filter (holds v) entries)

-- pairs put to others in the order of their keys; a key that is there already takes the later value
abbrev pub put_to : {K T : Type 0} → (K → K → Ordering) → List (K × T) → List (K × T) → List (K × T)
put_to cmp done pairs = fold (λ es p. insert_entry cmp es p.0 p.1) done pairs

abbrev pub by_bytes : List ℕ → List ℕ → Ordering
by_bytes = slice_cmp nat_cmp

-- pairs in the order of the bytes of their names, each name once
abbrev pub by_name : {T : Type 0} → List (List ℕ × T) → List (List ℕ × T)
by_name pairs = put_to by_bytes [] pairs

-- the value of a name
abbrev pub value_of : {T : Type 0} → List ℕ → List (List ℕ × T) → Option T
value_of name pairs = lookup (is_at (by_bytes name)) pairs

-- Julia's own identifier, 1222c4b2-2114-5bfd-aeef-88e4692bbb3e
abbrev pub julia_id : List ℕ
julia_id = 0x12 ∷ 0x22 ∷ 0xc4 ∷ 0xb2 ∷ 0x21 ∷ 0x14 ∷ 0x5b ∷ 0xfd ∷ 0xae ∷ 0xef ∷ 0x88 ∷ 0xe4 ∷ 0x69 ∷ 0x2b ∷ 0xbb ∷ 0x3e ∷ []

-- a dependency on anything but Julia
abbrev pub is_package : List ℕ → Bool
is_package id = not (bytes_eq id julia_id)

-- what both kinds of sections say of a version's names, before the rules on names of both kinds and on Julia
abbrev pub deps_named : PackageRows → Version → List (List ℕ × List ℕ)
deps_named rows v = by_name (held v rows.deps.items)

abbrev pub weak_named : PackageRows → Version → List (List ℕ × List ℕ)
weak_named rows v = by_name (held v rows.weakdeps.items)

abbrev pub is_absent : {T : Type 0} → Option T → Bool
is_absent None = true
is_absent (Some value) = false

-- the dependencies, without the weak ones and Julia
abbrev pub deps_of : PackageRows → Version → List (List ℕ × List ℕ)
deps_of rows v = filter (λ p. is_absent (value_of p.0 (weak_named rows v)) && is_package p.1) (deps_named rows v)

-- the weak dependencies, without Julia
abbrev pub weak_of : PackageRows → Version → List (List ℕ × List ℕ)
weak_of rows v = filter (λ p. is_package p.1) (weak_named rows v)

-- the identifier of a dependency's name: a name of both kinds is weak
abbrev pub weak_or : Option (List ℕ) → Option (List ℕ) → Option (List ℕ)
weak_or None strong = strong
weak_or (Some weak) strong = Some weak

abbrev pub is_some_package : Option (List ℕ) → Bool
is_some_package None = false
is_some_package (Some id) = is_package id

-- compat counts on `julia`, and on the names of dependencies of either kind
abbrev pub counts : List (List ℕ × List ℕ) → List (List ℕ × List ℕ) → List ℕ → Bool
counts strong weak name = bytes_eq name (codes "julia") || is_some_package (weak_or (value_of name weak) (value_of name strong))

-- a name and the table of its entry, Compat before WeakCompat
abbrev pub Spot : Type 0
Spot = List ℕ × Bool

abbrev pub by_spot : Spot → Spot → Ordering
by_spot a b = ordering_then (by_bytes a.0 b.0) (bool_cmp a.1 b.1)

abbrev pub spotted : Bool → Entry (Listing Ranged) → Spot × List Ranged
spotted weak entry = ((entry.name, weak), entry.value.items)

-- the entries of a compat table that count for a version
abbrev pub counting : List (List ℕ × List ℕ) → List (List ℕ × List ℕ) → Version → Bool → List (Entry (Listing Ranged)) → List (Spot × List Ranged)
counting strong weak v kind entries = map (spotted kind) (filter (λ e. holds v e && counts strong weak e.name) entries)

-- compat in the order of names, for one name Compat's entry before WeakCompat's
abbrev pub compat_of : PackageRows → Version → List (List ℕ × List Ranged)
compat_of rows v =
    map (λ p. (p.0.0, p.1)) (put_to by_spot [] (
    counting (deps_named rows v) (weak_named rows v) v false rows.compat.items
    ++ counting (deps_named rows v) (weak_named rows v) v true rows.weakcompat.items))

-- the ranges that an entry allows; None for a specifier, which no registry has
abbrev pub ranges_in : Allowed → Option (List Ranged)
ranges_in (kinds.Spec parts) = None
ranges_in (kinds.Ranges set) = Some set.items

abbrev pub allowed_in : List ℕ × Allowed → List ℕ × Option (List Ranged)
allowed_in p = (p.0, ranges_in p.1)

abbrev pub some_ranges : List ℕ × List Ranged → List ℕ × Option (List Ranged)
some_ranges p = (p.0, Some p.1)

-- the row of a version
pub record IsRow (rows : PackageRows) (v : Version) (row : Row) : Type 0 where
  pub deps : row.deps.items ≡ deps_of rows v
  pub weak : row.weak.items ≡ weak_of rows v
  pub compat : map allowed_in row.compat.items ≡ map some_ranges (compat_of rows v)
