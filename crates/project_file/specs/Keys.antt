-- The keys of a project file that have a meaning here, and all others.
use Rattle.std.specs.Prelude.{ℕ, ◌≤◌, Bool, true, not, ◌&&◌, if◌then◌else◌, List, [], ◌∷◌, codes, IsTrue}
use Rattle.std.specs.List.{list_any}
use Rattle.std.specs.Str.{bytes_eq}
use Rattle.toml.specs.Data.{Members, no_members, member}
use Rattle.toml_view.specs.Document.{nesting, nesting_limit}

abbrev pub named_keys : List (List ℕ)
named_keys =
    codes "name" ∷ codes "uuid" ∷ codes "version" ∷ codes "deps" ∷ codes "weakdeps" ∷ codes "extensions" ∷ codes "compat"
    ∷ codes "extras" ∷ codes "sources" ∷ codes "manifest" ∷ []

unfoldable pub is_named : List ℕ → Bool
is_named key = list_any (λ name. bytes_eq key name) named_keys

-- the members of all other keys, as they stand
abbrev pub unnamed : Members → Members
unnamed no_members = no_members
unnamed (member key value more) = if is_named key then unnamed more else member key value (unnamed more)

-- whether no key of the members is a named one
abbrev pub names_none : Members → Bool
names_none no_members = true
names_none (member key value more) = not (is_named key) && names_none more

-- a rest with which a project has a table: no key of it is a named one, and it nests within the limit
abbrev pub IsPlain : Members → Type 0
IsPlain members = IsTrue (names_none members) × (nesting members ≤ nesting_limit)
