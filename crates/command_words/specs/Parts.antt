-- What single words mean: names, packages, versions, paths and where an import is asked from. (own rule)
use Rattle.std.specs.Prelude.{ℕ, Bool, not, nat_lt, ◌==◌, ◌&&◌, ◌||◌, if◌then◌else◌, List, [], ◌∷◌, length, Option, Some, None, Result, Ok, Err, option_map}
use Rattle.std.specs.List.{list_all, position_or_len, before_first, after_first}
use Rattle.std.specs.Option.{option_and_then}
use Rattle.uuid.specs.Text.{parsed}
use Rattle.uuid.specs.declared.Uuid.{Uuid}
use Rattle.jl_versions.specs.Meant.{version_meant}
use Rattle.jl_versions.specs.declared.version.Version.{Version}
use Rattle.pkg_world.specs.Path.{Path, joined}
use Rattle.env_maps.specs.declared.id.Context.{Context}
use Rattle.env_maps.specs.declared.id.Context.TheVariants.{Top, Package, Extension}
use Rattle.command_words.specs.Table.{Word}

-- a name: not empty, and without slash, equals sign, at sign or space
abbrev pub is_name : Word → Bool
is_name word = not (length word == 0) && list_all (λ b. not (b == 47 || (b == 61 || (b == 64 || b == 32)))) word

abbrev pub name_of : Word → Option Word
name_of word = if is_name word then Some word else None

abbrev pub has_mark : (ℕ → Bool) → Word → Bool
has_mark mark text = nat_lt (position_or_len mark text) (length text)

-- a name, and something behind it
abbrev pub name_and : {X : Type 0} → Option X → Word → Option (Word × Option X)
name_and None name = None
name_and (Some more) name = option_map (λ word. (word, Some more)) (name_of name)

-- a name alone, or a name, the mark, and a text that `read` takes
abbrev pub marked : {X : Type 0} → (ℕ → Bool) → (Word → Option X) → Word → Option (Word × Option X)
marked mark read text =
    if has_mark mark text then name_and (read (after_first mark text)) (before_first mark text)
    else option_map (λ name. (name, None)) (name_of text)

-- a package: `NAME` or `NAME=UUID`
unfoldable pub package_of : Word → Option (Word × Option Uuid)
package_of text = marked (λ b. b == 61) parsed text

abbrev pub version_read : Result Version ℕ → Option Version
version_read (Ok version) = Some version
version_read (Err place) = None

-- what is pinned: `NAME` or `NAME@VERSION`
unfoldable pub pinned_of : Word → Option (Word × Option Version)
pinned_of text = marked (λ b. b == 64) (λ version. version_read (version_meant version)) text

-- inside an extension, where the package's identifier is given
abbrev pub inside : Word → Word × Option Uuid → Option Context
inside extension named = option_map (λ uuid. Extension uuid named.0 extension) named.1

abbrev pub context_in : Option Word → Word × Option Uuid → Option Context
context_in None named = Some (Package (record { uuid = named.1; name = named.0 }))
context_in (Some extension) named = inside extension named

-- from where an import is asked: the top level, a package, or an extension of a package whose identifier is given
abbrev pub context_of : Option Word → Option Word → Option Context
context_of None None = Some Top
context_of None (Some extension) = None
context_of (Some text) extension = option_and_then (context_in extension) (package_of text)

-- a file that may be given; None where its path rises above the root
abbrev pub file_of : Path → Option Word → Option (Option Path)
file_of cwd None = Some None
file_of cwd (Some text) = option_map (λ path. Some path) (joined cwd text)

-- what each word means; None where a word means nothing
abbrev pub each : {X : Type 0} → (Word → Option X) → List Word → Option (List X)
each read [] = Some []
each read (word ∷ more) = option_and_then (λ meant. option_map (λ others. meant ∷ others) (each read more)) (read word)
