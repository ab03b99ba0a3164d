-- Which files the reading of fixed packages consults: files that agree there give the same packages.
use Rattle.std.specs.Prelude.{◌≡◌, ℕ, List, [], Option}
use Rattle.std.specs.List.{flat_map}
use Rattle.pkg_world.specs.Path.{Path}
use Rattle.pkg_world.specs.Tree.{Files}
use Rattle.pkg_world.specs.declared.place.Home.{Home}
use Rattle.project_file.specs.Said as project
use Rattle.manifest_file.specs.Saying as manifest
use Rattle.registry_tables.specs.Consulted.{AgreeAt, project_files}
use Rattle.fixed_packages.specs.Candidates.{candidates}
use Rattle.fixed_packages.specs.FixedPackages.{Key, InReadingOrder, by_id, by_name, fixed_in}
use Rattle.fixed_packages.specs.declared.basis.Basis.{Basis}
use Rattle.fixed_packages.specs.declared.basis.Basis.TheVariants.{Folder, Escaping, Stated}

-- a package in a folder is read from its project file, any other from no file
abbrev pub basis_files : Basis → List Path
basis_files (Folder folder origin) = project_files folder
basis_files (Escaping file keys) = []
basis_files (Stated given) = []

abbrev pub files_of : InReadingOrder → List Path
files_of packages = flat_map (λ entry. basis_files entry.1) packages

-- the project files of the packages that a project and its manifest fix
abbrev pub fixed_files : Home → project.Said → manifest.Said → List Path
fixed_files home said found = files_of (by_name (by_id (candidates home said found)))

-- the fixed packages rest on these files
abbrev pub FixedRestOnFiles : Type 0
FixedRestOnFiles = (one other : Files) (home : Home) (said : project.Said) (found : manifest.Said) → AgreeAt (fixed_files home said found) one other
    → fixed_in one home said found ≡ fixed_in other home said found
