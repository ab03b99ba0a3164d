-- Which files the readings of this crate consult: files that hold the same at these paths give the same.
use Rattle.std.specs.Prelude.{◌≡◌, ℕ, List, [], ◌∷◌, ◌++◌, map, codes, Option, Some, None}
use Rattle.std.specs.List.{flat_map}
use Rattle.pkg_world.specs.Path.{Path, joined}
use Rattle.pkg_world.specs.Tree.{Files}
pub use Rattle.registry_tables.specs.Consulted.{AgreeAt}
use Rattle.registry_tables.specs.Registries.{registry_file}
use Rattle.registry_tables.specs.Registry.{Registered}
use Rattle.registry_tables.specs.declared.package_list.Package.{Package}
use Rattle.registered_offers.specs.ListedTables.{package_of, registries_in, tables_in}

-- the files in a package's folder
abbrev pub package_files : Path → List Path
package_files folder =
    (folder ++ codes "Package.toml" ∷ [])
    ∷ (folder ++ codes "Versions.toml" ∷ [])
    ∷ (folder ++ codes "Deps.toml" ∷ [])
    ∷ (folder ++ codes "Compat.toml" ∷ [])
    ∷ (folder ++ codes "WeakDeps.toml" ∷ [])
    ∷ (folder ++ codes "WeakCompat.toml" ∷ [])
    ∷ []

abbrev pub files_inside : Option Path → List Path
files_inside None = []
files_inside (Some folder) = package_files folder

abbrev pub files_where : Path → Option Package → List Path
files_where folder None = []
files_where folder (Some wanted) = files_inside (joined folder wanted.path)

-- the files of a package in a registry
abbrev pub files_at : List ℕ → Registered → List Path
files_at uuid registry = files_where registry.folder (package_of uuid registry)

-- the files of a package in all registries
abbrev pub table_files : List Registered → List ℕ → List Path
table_files registries uuid = flat_map (files_at uuid) registries

-- the registries of some folders rest on the registries' own files
abbrev pub RegistriesRestOnFiles : Type 0
RegistriesRestOnFiles = (one other : Files) (folders : List Path) → AgreeAt (map registry_file folders) one other → registries_in one folders ≡ registries_in other folders

-- the tables of a package rest on the files of its folders
abbrev pub TablesRestOnFiles : Type 0
TablesRestOnFiles = (one other : Files) (registries : List Registered) (uuid : List ℕ) → AgreeAt (table_files registries uuid) one other → tables_in one registries uuid ≡ tables_in other registries uuid
