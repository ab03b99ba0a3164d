-- What is true of a version's row (Pkg, registries): a name stands there with a value exactly where a section that holds
-- the version gives it, but for what the rules on names of both kinds, on Julia and on foreign names leave out.
use Rattle.std.specs.Prelude.{◌≡◌, ◌≢◌, ◌↔◌, ◌⊎◌, ℕ, List, map, codes, Contains, IsTrue}
use Rattle.jl_versions.specs.declared.version.Version.{Version}
use Rattle.compat_spec.specs.Ranges.{Ranged}
use Rattle.package_tables.specs.Row.{holds, julia_id, deps_of, weak_of, compat_of}
use Rattle.package_tables.specs.Sections.{bare}
use Rattle.package_tables.specs.declared.package_rows.Entry.{Entry}
use Rattle.package_tables.specs.declared.package_rows.PackageRows.{PackageRows}

-- a section that holds the version gives the name the value
pub record IsGiven {T : Type 0} (v : Version) (entries : List (Entry T)) (name : List ℕ) (value : T) : Type 0 where
  pub entry : Entry T
  pub stands : Contains entries entry
  pub held : IsTrue (holds v entry)
  pub its_name : entry.name ≡ name
  pub its_value : entry.value ≡ value

-- the sections that hold the version give each name one value
abbrev pub HasOneValue : {T : Type 0} → Version → List (Entry T) → Type 0
HasOneValue {T} v entries = (name : List ℕ) (one other : T) → IsGiven v entries name one → IsGiven v entries name other → one ≡ other

-- none of the tables gives the version two values of one name
pub record AreClear (rows : PackageRows) (v : Version) : Type 0 where
  pub deps : HasOneValue v rows.deps.items
  pub weakdeps : HasOneValue v rows.weakdeps.items
  pub compat : HasOneValue v (map bare rows.compat.items)
  pub weakcompat : HasOneValue v (map bare rows.weakcompat.items)

-- a section that holds the version has the name
abbrev pub IsNamed : {T : Type 0} → Version → List (Entry T) → List ℕ → Type 0
IsNamed {T} v entries name = (value : T) × IsGiven v entries name value

-- a dependency is one that a section gives, that isn't weak and isn't Julia
abbrev pub DepsAreGiven : Type 0
DepsAreGiven = (rows : PackageRows) (v : Version) → AreClear rows v → (name id : List ℕ)
    → Contains (deps_of rows v) (name, id) ↔ (IsGiven v rows.deps.items name id × (IsNamed v rows.weakdeps.items name → ⊥) × (id ≢ julia_id))

-- a weak dependency is one that a section gives, and isn't Julia
abbrev pub WeakAreGiven : Type 0
WeakAreGiven = (rows : PackageRows) (v : Version) → AreClear rows v → (name id : List ℕ)
    → Contains (weak_of rows v) (name, id) ↔ (IsGiven v rows.weakdeps.items name id × (id ≢ julia_id))

-- compat counts on `julia`, and on a dependency of either kind
abbrev pub CompatCounts : PackageRows → Version → List ℕ → Type 0
CompatCounts rows v name = (name ≡ codes "julia") ⊎ ((id : List ℕ) × (Contains (deps_of rows v) (name, id) ⊎ Contains (weak_of rows v) (name, id)))

-- compat is what a section of either table gives, where it counts
abbrev pub CompatIsGiven : Type 0
CompatIsGiven = (rows : PackageRows) (v : Version) → AreClear rows v → (name : List ℕ) (ranges : List Ranged)
    → Contains (compat_of rows v) (name, ranges) ↔ (CompatCounts rows v name × (IsGiven v (map bare rows.compat.items) name ranges ⊎ IsGiven v (map bare rows.weakcompat.items) name ranges))
