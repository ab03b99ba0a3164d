-- From where an import is asked, and what is seen from there: the top level, a package, or an extension of a package (Julia
-- manual, Code Loading; the keys of extensions and their identifiers are our own rules).
use Rattle.std.specs.Prelude.{ℕ, Bool, false, ◌&&◌, if◌then◌else◌, List, ◌∷◌, ◌++◌, filter, Option, Some, None, is_some, option_map}
use Rattle.std.specs.Option.{option_and_then}
use Rattle.std.specs.Str.{bytes_eq}
use Rattle.pkg_world.specs.Path.{Path}
use Rattle.pkg_world.specs.Tree.{Files}
use Rattle.extension_rules.specs.NamedIds.{extension_id}
use Rattle.entry_files.specs.Entries.{extension_entry}
use Rattle.env_maps.specs.declared.id.Id.{Id}
use Rattle.env_maps.specs.declared.id.Context.{Context}
use Rattle.env_maps.specs.declared.id.Context.TheVariants.{Top, Package, Extension}
use Rattle.env_maps.specs.ByName.{found_at, is_among}

-- two identifiers that are there and the same
abbrev pub same_uuid : Option (List ℕ) → Option (List ℕ) → Bool
same_uuid (Some a) (Some b) = bytes_eq a b
same_uuid (Some a) None = false
same_uuid None b = false

-- what a package says of those that it uses: its dependencies, its optional ones, and its extensions with the names of their
-- triggers
pub record Uses : Type 0 where
  pub deps : List (List ℕ × List ℕ)
  pub weakdeps : List (List ℕ × List ℕ)
  pub extensions : List (List ℕ × List (List ℕ))

-- what the extension with these triggers sees: the package that it extends, then its triggers among that package's optional
-- dependencies, then that package's dependencies
abbrev pub seen_by : List ℕ → List ℕ → Uses → List (List ℕ) → List (List ℕ × List ℕ)
seen_by uuid parent uses triggers = (parent, uuid) ∷ (filter (λ dep. is_among dep.0 triggers) uses.weakdeps ++ uses.deps)

-- what an extension of a package sees; None where the package names no such extension
abbrev pub extension_deps : List ℕ → List ℕ → List ℕ → Uses → Option (List (List ℕ × List ℕ))
extension_deps uuid parent extension uses = option_map (seen_by uuid parent uses) (found_at extension uses.extensions)

abbrev pub package_id : List ℕ → List ℕ → Id
package_id uuid name = record { uuid = Some uuid; name = name }

-- contexts to what is seen from them, by what packages use; the top level has no such entry
abbrev pub in_graph : (Id → Option Uses) → Context → Option (List (List ℕ × List ℕ))
in_graph graph Top = None
in_graph graph (Package id) = option_map (λ uses. uses.deps) (graph id)
in_graph graph (Extension uuid parent extension) = option_and_then (extension_deps uuid parent extension) (graph (package_id uuid parent))

-- the identity of an extension
abbrev pub extension_of : List ℕ → List ℕ → Id
extension_of uuid extension = package_id (extension_id uuid extension) extension

-- whether an identity is that of an extension of the package with this identifier
abbrev pub is_extension : List ℕ → List ℕ → Id → Bool
is_extension uuid extension id = bytes_eq extension id.name && same_uuid (Some (extension_id uuid extension)) id.uuid

-- the package whose files hold an identity's entry: for the extension from which is asked its parent, else itself
abbrev pub base_of : Context → Id → Id
base_of Top id = id
base_of (Package from) id = id
base_of (Extension uuid parent extension) id = if is_extension uuid extension id then package_id uuid parent else id

abbrev pub names_extension : List ℕ → Option Uses → Bool
names_extension extension None = false
names_extension extension (Some uses) = is_some (found_at extension uses.extensions)

-- the entry of an extension by that of its parent, where the parent names it
abbrev pub extension_path : Files → List ℕ → List ℕ → Option Uses → Option Path → Option Path
extension_path files parent extension uses path =
    if names_extension extension uses then option_and_then (extension_entry files parent extension) path else None

-- the entry of an identity, by what its base uses and by its base's entry: only from an extension the extension itself has
-- an entry of its own
abbrev pub path_by : Files → Context → Id → Option Uses → Option Path → Option Path
path_by files Top id uses path = path
path_by files (Package from) id uses path = path
path_by files (Extension uuid parent extension) id uses path =
    if is_extension uuid extension id then extension_path files parent extension uses path else path

-- identities to entry paths, as they are seen from a context, by the maps of packages
abbrev pub path_from : Files → (Id → Option Uses) → (Id → Option Path) → Context → Id → Option Path
path_from files graph paths context id = path_by files context id (graph (base_of context id)) (paths (base_of context id))
