-- The files of a made world, each with the table that its text reads as. (own rule)
--     world number     the files
use Rattle.std.specs.Prelude.{ℕ, List, [], ◌∷◌, ◌++◌, codes}
use Rattle.std.specs.List.{flat_map, range_with_len}
use Rattle.toml.specs.Data.{Members}
use Rattle.pkg_world.specs.Path.{Path}
use Rattle.world_maker.specs.declared.ranges.Span.{Span}
use Rattle.world_maker.specs.Draws.{state}
use Rattle.world_maker.specs.Drawn.{starts_from, asked, needs_at, spans_from, ranged}
use Rattle.world_maker.specs.Texts.{name}
use Rattle.world_maker.specs.Tables.{package_members, versions_members, deps_members, compat_members, registry_members, project_members}

pub record Tabled : Type 0 where
  pub path : Path
  pub members : Members

abbrev pub registry : Path
registry = codes "d" ∷ codes "registries" ∷ codes "Made" ∷ []

abbrev pub project : Path
project = codes "p" ∷ []

-- a file in a folder
abbrev pub filed : Path → List ℕ → Members → Tabled
filed folder file members = record { path = folder ++ file ∷ []; members = members }

-- the four files of a package in the registry
abbrev pub package_files : ℕ → List ℕ → List Span → List Tabled
package_files k needs spans =
    filed (registry ++ name k ∷ []) (codes "Package.toml") (package_members k)
    ∷ filed (registry ++ name k ∷ []) (codes "Versions.toml") (versions_members 8 k)
    ∷ filed (registry ++ name k ∷ []) (codes "Deps.toml") (deps_members needs)
    ∷ filed (registry ++ name k ∷ []) (codes "Compat.toml") (compat_members 8 needs spans)
    ∷ []

-- the state at which the dependencies are drawn, and that at which the ranges are
abbrev pub before_needs : ℕ → ℕ → ℕ
before_needs number count = state number count

abbrev pub before_spans : ℕ → ℕ → ℕ
before_spans number count = state (before_needs number count) (asked (before_needs number count) count)

-- package k of so many: with the dependencies and the ranges that are drawn for it
abbrev pub needs_of : ℕ → ℕ → ℕ → List ℕ
needs_of number count k = needs_at (before_needs number count) count k

abbrev pub spans_of : ℕ → ℕ → ℕ → List Span
spans_of number count k = spans_from (state (before_spans number count) (ranged (before_needs number count) count k)) (starts_from number count) (needs_of number count k)

abbrev pub drawn_files : ℕ → ℕ → ℕ → List Tabled
drawn_files number count k = package_files k (needs_of number count k) (spans_of number count k)

-- the project, which depends on the first ten packages, and the registry of so many
abbrev pub first_files : ℕ → List Tabled
first_files count = filed project (codes "Project.toml") (project_members 10) ∷ filed registry (codes "Registry.toml") (registry_members count) ∷ []

-- a world of so many packages
unfoldable pub sized_world : ℕ → ℕ → List Tabled
sized_world number count = first_files count ++ flat_map (drawn_files number count) (range_with_len 0 count)

-- the world of a number
abbrev pub world : ℕ → List Tabled
world number = sized_world number 300
