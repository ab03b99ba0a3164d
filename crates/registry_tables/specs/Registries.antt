-- Where registries lie (Pkg, Registries): in the folder `registries` of each depot, as a folder or as a packed file.
use Rattle.std.specs.Prelude.{◌≡◌, ℕ, Bool, ◌&&◌, List, [], ◌∷◌, ◌++◌, map, filter, codes}
use Rattle.std.specs.List.{flat_map}
use Rattle.std.specs.Option.{unwrap_or}
use Rattle.pkg_world.specs.Path.{Path, is_plain, last_ends_in}
use Rattle.pkg_world.specs.Tree.{Files, at, holds, is_file, names_at}
use Rattle.registry_tables.specs.declared.found.Registries.{Registries}

-- the file of a registry's folder
abbrev pub registry_file : Path → Path
registry_file folder = folder ++ codes "Registry.toml" ∷ []

-- a registry is a folder that has this file
abbrev pub is_registry : Files → Path → Bool
is_registry files path = is_file (holds (registry_file path) files)

-- a packed registry is a file with this ending
abbrev pub is_packed : Files → Path → Bool
is_packed files path = last_ends_in path (codes ".tar.gz") && is_file (holds path files)

-- the paths of names in a folder; a name that is no part of a path has none
abbrev pub children : Path → List (List ℕ) → List Path
children folder names = map (λ name. folder ++ name ∷ []) (filter is_plain names)

-- what stands in a folder, in the order of the names' bytes; nothing where no folder is there
abbrev pub in_folder : Files → Path → List Path
in_folder files folder = children folder (unwrap_or (names_at (at folder files)) [])

-- the folder of a depot's registries
abbrev pub registries_of : Path → Path
registries_of depot = depot ++ codes "registries" ∷ []

-- the folders of all registries, by the order of the depots and then of the names
abbrev pub folders : Files → List Path → List Path
folders files depots = flat_map (λ depot. filter (is_registry files) (in_folder files (registries_of depot))) depots

-- the paths of all packed files, in the same order
abbrev pub packed : Files → List Path → List Path
packed files depots = flat_map (λ depot. filter (is_packed files) (in_folder files (registries_of depot))) depots

abbrev pub AreRegistries : Files → List Path → Registries → Type 0
AreRegistries files depots found = (found.folders.items ≡ folders files depots) × (found.packed.items ≡ packed files depots)

-- paths were added behind those that were found before
abbrev pub Adds : List Path → List Path → Registries → Registries → Type 0
Adds folders packed old new = (new.folders.items ≡ old.folders.items ++ folders) × (new.packed.items ≡ old.packed.items ++ packed)
