-- Which folders are listed and which files are read for a catalog: files that agree there give the same catalog.
use Rattle.std.specs.Prelude.{◌≡◌, List, ◌++◌, map, option_to_list}
use Rattle.std.specs.List.{flat_map}
use Rattle.pkg_world.specs.Path.{Path}
use Rattle.pkg_world.specs.Tree.{Files}
use Rattle.pkg_world.specs.declared.place.Home.{Home}
use Rattle.pkg_world.specs.declared.place.Place.{Place}
use Rattle.project_file.specs.Said as project
use Rattle.manifest_file.specs.Saying as manifest
use Rattle.registry_tables.specs.Consulted.{AgreeAt, ListAlike}
use Rattle.registry_tables.specs.Registries.{registry_file, registries_of, in_folder}
use Rattle.standard_libraries.specs.Consulted.{library_files}
use Rattle.fixed_packages.specs.Consulted.{fixed_files}
use Rattle.offer_catalog.specs.Catalogued.{catalogued}

-- the folders that are listed: that of each depot's registries, and that of the standard libraries
abbrev pub catalog_folders : Place → List Path
catalog_folders place = map registries_of place.depots.items ++ option_to_list place.stdlib

-- the files of a registry in what stands in a depot's folder of registries
abbrev pub depot_files : Files → Path → List Path
depot_files files depot = map registry_file (in_folder files (registries_of depot))

-- the files that are read: those of registries, and the project files of standard libraries and of fixed packages
abbrev pub catalog_files : Files → Place → Home → project.Said → manifest.Said → List Path
catalog_files files place home said found = flat_map (depot_files files) place.depots.items ++ (library_files files place.stdlib ++ fixed_files home said found)

-- a catalog rests on these folders' names and on these files
abbrev pub CatalogRestsOnFiles : Type 0
CatalogRestsOnFiles = (one other : Files) (place : Place) (home : Home) (said : project.Said) (found : manifest.Said) → ListAlike (catalog_folders place) one other
    → AgreeAt (catalog_files one place home said found) one other → catalogued one place home said found ≡ catalogued other place home said found
