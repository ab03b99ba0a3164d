-- The tables of a made world's files. (own rule, in the forms of Pkg's registries and project files)
use Rattle.std.specs.Prelude.{ℕ, ◌+◌, ◌*◌, List, [], ◌∷◌, map, length, get_or, codes}
use Rattle.std.specs.Ordering.{nat_cmp, match_ordering}
use Rattle.std.specs.Cmp.Lexicographic.{slice_cmp}
use Rattle.std.specs.List.{fold, range_with_len}
use Rattle.toml.specs.Data.{Data, string, table, Members, no_members, member}
use Rattle.world_maker.specs.declared.ranges.Span.{Span}
use Rattle.world_maker.specs.Texts.{name, uuid, version, tree, range_text}

-- the members with a value at a key, in the order of the keys
abbrev pub put : List ℕ → Data → Members → Members
put key value no_members = member key value no_members
put key value (member k v more) = match_ordering (slice_cmp nat_cmp key k) (member key value (member k v more)) (member k value more) (member k v (put key value more))

-- the members with these values at these keys
abbrev pub members_of : List (List ℕ × Data) → Members
members_of pairs = fold (λ members pair. put pair.0 pair.1 members) no_members pairs

abbrev pub table_of : List (List ℕ × Data) → Data
table_of pairs = table (members_of pairs)

-- a package's name with its identifier
abbrev pub id_pair : ℕ → List ℕ × Data
id_pair k = (name k, string (uuid k))

-- the table of package k in Package.toml
abbrev pub package_members : ℕ → Members
package_members k = members_of ((codes "name", string (name k)) ∷ (codes "uuid", string (uuid k)) ∷ [])

-- of its versions in Versions.toml, of which there are so many
abbrev pub version_pair : ℕ → ℕ → List ℕ × Data
version_pair k i = (version i, table_of ((codes "git-tree-sha1", string (tree k i)) ∷ []))

unfoldable pub versions_members : ℕ → ℕ → Members
versions_members versions k = members_of (map (version_pair k) (range_with_len 0 versions))

-- of its dependencies in Deps.toml: one section, for all versions
abbrev pub deps_members : List ℕ → Members
deps_members needs = members_of ((codes "1", table_of (map id_pair needs)) ∷ [])

-- of its compatibility in Compat.toml: a section for each version i, with a range for each dependency, the one at place
-- 8 * j + i for dependency j
abbrev pub compat_pair : List ℕ → List Span → ℕ → ℕ → List ℕ × Data
compat_pair needs spans i j = (name (get_or needs j 0), string (range_text (get_or spans (8 * j + i) (record { low = 0; high = 0 }))))

abbrev pub section_pair : List ℕ → List Span → ℕ → List ℕ × Data
section_pair needs spans i = (version i, table_of (map (compat_pair needs spans i) (range_with_len 0 (length needs))))

unfoldable pub compat_members : ℕ → List ℕ → List Span → Members
compat_members versions needs spans = members_of (map (section_pair needs spans) (range_with_len 0 versions))

-- of the registry in Registry.toml: each package stands in the folder of its name
abbrev pub listing_pair : ℕ → List ℕ × Data
listing_pair k = (uuid k, table_of ((codes "name", string (name k)) ∷ (codes "path", string (name k)) ∷ []))

abbrev pub registry_members : ℕ → Members
registry_members count = members_of (
    (codes "name", string (codes "Made"))
    ∷ (codes "packages", table_of (map listing_pair (range_with_len 0 count)))
    ∷ (codes "uuid", string (codes "00000000-0000-4000-9000-000000000999"))
    ∷ [])

-- of the project in Project.toml: its dependencies are so many first packages
unfoldable pub project_members : ℕ → Members
project_members roots = members_of ((codes "deps", table_of (map id_pair (range_with_len 0 roots))) ∷ [])
