-- The row of a version: what the sections of a package's tables say whose ranges hold it (Pkg, registries; the order of the
-- lists and which entries are ignored are own rules).
--     deps_of, weak_of, compat_of rows v     its dependencies, its weak dependencies and its compat, each in the order of names
use Rattle.std.specs.Prelude.{◌≡◌, ℕ, Bool, true, false, ◌&&◌, List, [], ◌++◌, map, filter}
use Rattle.jl_versions.specs.declared.version.Version.{Version}
use Rattle.compat_spec.specs.Ranges.{Ranged}
use Rattle.registry_tables.specs.Rows.{Rows}
use Rattle.package_tables.specs.Row.{holds, held, by_name, value_of, is_absent, is_package, counts, Spot, by_spot, put_to, allowed_in, some_ranges}
use Rattle.package_tables.specs.declared.expanding.Row.{Row}
use Rattle.package_tables.specs.declared.package_rows.Entry.{Entry}

-- what the sections of either kind say of a version's names, before the rules on names of both kinds and on Julia
abbrev pub deps_named : Rows → Version → List (List ℕ × List ℕ)
deps_named rows v = by_name (held v rows.strong.deps)

abbrev pub weak_named : Rows → Version → List (List ℕ × List ℕ)
weak_named rows v = by_name (held v rows.weak.deps)

-- the dependencies, without the weak ones and Julia
abbrev pub deps_of : Rows → Version → List (List ℕ × List ℕ)
deps_of rows v = filter (λ p. is_absent (value_of p.0 (weak_named rows v)) && is_package p.1) (deps_named rows v)

-- the weak dependencies, without Julia
abbrev pub weak_of : Rows → Version → List (List ℕ × List ℕ)
weak_of rows v = filter (λ p. is_package p.1) (weak_named rows v)

abbrev pub spotted : Bool → Entry (List Ranged) → Spot × List Ranged
spotted kind entry = ((entry.name, kind), entry.value)

-- the entries of a compat table that count for a version: those on `julia`, and on the names of its dependencies
abbrev pub counting : Rows → Version → Bool → List (Entry (List Ranged)) → List (Spot × List Ranged)
counting rows v kind entries = map (spotted kind) (filter (λ e. holds v e && counts (deps_named rows v) (weak_named rows v) e.name) entries)

-- compat in the order of names, for one name Compat's entry before WeakCompat's
abbrev pub compat_of : Rows → Version → List (List ℕ × List Ranged)
compat_of rows v = map (λ p. (p.0.0, p.1)) (put_to by_spot [] (counting rows v false rows.strong.compat ++ counting rows v true rows.weak.compat))

-- a row that was made says this
pub record IsRowOf (rows : Rows) (v : Version) (row : Row) : Type 0 where
  pub deps : row.deps.items ≡ deps_of rows v
  pub weak : row.weak.items ≡ weak_of rows v
  pub compat : map allowed_in row.compat.items ≡ map some_ranges (compat_of rows v)
