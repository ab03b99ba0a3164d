-- The standard libraries: folders of the standard library folder, each with a project file that has its identifier.
use Rattle.std.specs.Prelude.{ℕ, List, Option, Some, None, Ok}
use Rattle.std.specs.Option.{option_and_then}
use Rattle.pkg_world.specs.Each.{then_ok}
use Rattle.pkg_world.specs.Path.{Path, joined}
use Rattle.pkg_world.specs.Tree.{Files, holds}
use Rattle.project_file.specs.Said as project
use Rattle.project_places.specs.Active.{file_in}
use Rattle.project_places.specs.Files.{Read, at_file, project_in}
use Rattle.env_maps.specs.ByName.{by_name, given}

abbrev pub uuid_of : Option project.Said → Option (List ℕ)
uuid_of None = None
uuid_of (Some said) = said.uuid

-- the folder of a standard library
abbrev pub library_folder : Option Path → List ℕ → Option Path
library_folder stdlib name = option_and_then (λ folder. joined folder name) stdlib

-- the identifier that the project file at a path has
abbrev pub uuid_at : Files → Path → Read (Option (List ℕ))
uuid_at files file = then_ok (at_file file (project_in (holds file files))) (λ said. Ok (uuid_of said))

abbrev pub uuid_in : Files → Option Path → Read (Option (List ℕ))
uuid_in files None = Ok None
uuid_in files (Some folder) = uuid_at files (file_in files folder)

-- the identifier of the standard library of that name, by its project file
abbrev pub library_read : Files → Option Path → List ℕ → Read (Option (List ℕ))
library_read files stdlib name = uuid_in files (library_folder stdlib name)

-- the identifiers of the standard libraries of these names
abbrev pub library_in : Files → Option Path → List (List ℕ) → Read (List (List ℕ × Option (List ℕ)))
library_in files stdlib names = by_name (library_read files stdlib) names

-- the same of any name; none where the project file is refused
abbrev pub library_uuid : Files → Option Path → List ℕ → Option (List ℕ)
library_uuid files stdlib name = given (library_read files stdlib name)
