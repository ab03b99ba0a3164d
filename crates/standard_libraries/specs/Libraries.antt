-- The standard libraries: the folders of the standard library folder whose project files have a name and an identifier.
-- (Own rules: which folders are libraries, and that of those of one identifier the first by name counts.)
--     libraries_in files julia stdlib     the libraries by their identifiers, or the first project file that is refused
use Rattle.std.specs.Prelude.{ℕ, List, [], fold, Option, Some, None, is_some, unwrap_or, option_to_list, if◌then◌else◌, Ok}
use Rattle.std.specs.Ordering.{nat_cmp}
use Rattle.std.specs.declared.cmp.Ordering.{Ordering}
use Rattle.std.specs.Cmp.Lexicographic.{slice_cmp}
use Rattle.std.specs.BTreeMap.{insert_entry, is_at}
use Rattle.std.specs.Map.{lookup}
use Rattle.jl_versions.specs.Triple.{release}
use Rattle.pkg_world.specs.Each.{then_ok, read_each}
use Rattle.pkg_world.specs.Path.{Path}
use Rattle.pkg_world.specs.Tree.{Files, holds}
use Rattle.project_file.specs.Said as project
use Rattle.project_places.specs.Active.{file_in}
use Rattle.project_places.specs.Files.{Read, at_file, project_in}
use Rattle.registry_tables.specs.Registries.{in_folder}
use Rattle.standard_libraries.specs.SaidLibrary.{SaidLibrary}

-- what a project file with that name and identifier says; without a version the library has Julia's
abbrev pub library_named : List ℕ → project.Said → List ℕ → List ℕ → SaidLibrary
library_named julia said name uuid = record {
  uuid = uuid;
  name = name;
  version = unwrap_or said.version (release julia);
  deps = said.deps;
  weak = said.weakdeps;
  extensions = said.extensions;
}

-- a folder without a name or without an identifier is no library
abbrev pub library_with : List ℕ → project.Said → Option (List ℕ) → Option (List ℕ) → Option SaidLibrary
library_with julia said None uuid = None
library_with julia said (Some name) None = None
library_with julia said (Some name) (Some uuid) = Some (library_named julia said name uuid)

abbrev pub library_of : List ℕ → project.Said → Option SaidLibrary
library_of julia said = library_with julia said said.name said.uuid

-- a folder without a project file is no library
abbrev pub found_of : List ℕ → Option project.Said → Option SaidLibrary
found_of julia None = None
found_of julia (Some said) = library_of julia said

-- the library of the project file at a path
abbrev pub library_read : Files → List ℕ → Path → Read (Option SaidLibrary)
library_read files julia file = then_ok (at_file file (project_in (holds file files))) (λ said. Ok (found_of julia said))

-- the library of a folder, by its project file
abbrev pub folder_read : Files → List ℕ → Path → Read (List SaidLibrary)
folder_read files julia folder = then_ok (library_read files julia (file_in files folder)) (λ found. Ok (option_to_list found))

-- the libraries of these folders, in their order
abbrev pub folders_read : Files → List ℕ → List Path → Read (List SaidLibrary)
folders_read files julia folders = read_each (folder_read files julia) folders

abbrev pub by_bytes : List ℕ → List ℕ → Ordering
by_bytes = slice_cmp nat_cmp

-- libraries by their identifiers
abbrev pub ById : Type 0
ById = List (List ℕ × SaidLibrary)

-- the library of an identifier
abbrev pub library_with_id : ById → List ℕ → Option SaidLibrary
library_with_id libraries id = lookup (is_at (by_bytes id)) libraries

-- one more library at its place in the order, unless its identifier is there
abbrev pub put : ById → SaidLibrary → ById
put libraries library = if is_some (library_with_id libraries library.uuid) then libraries else insert_entry by_bytes libraries library.uuid library

-- libraries by their identifiers; the first of an identifier counts
abbrev pub by_id : List SaidLibrary → ById
by_id found = fold put [] found

abbrev pub libraries_at : Files → List ℕ → List Path → Read ById
libraries_at files julia folders = then_ok (folders_read files julia folders) (λ found. Ok (by_id found))

-- the libraries of all folders in the standard library folder
abbrev pub libraries_in : Files → List ℕ → Option Path → Read ById
libraries_in files julia None = Ok []
libraries_in files julia (Some stdlib) = libraries_at files julia (in_folder files stdlib)
