-- Which files the reading of the standard libraries consults: files that agree there give the same libraries.
use Rattle.std.specs.Prelude.{◌≡◌, ℕ, List, [], Option, Some, None, option_to_list}
use Rattle.std.specs.List.{flat_map}
use Rattle.pkg_world.specs.Path.{Path}
use Rattle.pkg_world.specs.Tree.{Files}
use Rattle.registry_tables.specs.Consulted.{AgreeAt, ListAlike, project_files}
use Rattle.registry_tables.specs.Registries.{in_folder}
use Rattle.standard_libraries.specs.Libraries.{libraries_in}

-- the project files of what stands in the folder of standard libraries
abbrev pub library_files : Files → Option Path → List Path
library_files files None = []
library_files files (Some stdlib) = flat_map project_files (in_folder files stdlib)

-- the libraries rest on the names in their folder and on these files
abbrev pub LibrariesRestOnFiles : Type 0
LibrariesRestOnFiles = (one other : Files) (julia : List ℕ) (stdlib : Option Path) → ListAlike (option_to_list stdlib) one other → AgreeAt (library_files one stdlib) one other
    → libraries_in one julia stdlib ≡ libraries_in other julia stdlib
