-- What the two files of the active project say, or the first of them that is missing or refused. The project file must be
-- there, and so must the manifest where it is needed; one that isn't needed and isn't there is empty. (Pkg, Project.toml and
-- Manifest.toml; where they lie: Julia manual, Code Loading.)
--     project_files needed files place     the paths of both and what they say, or the first refusal
--     begun_files files place              the same where the project file need not be there either
use Rattle.std.specs.Prelude.{◌≡◌, Bool, true, false, if◌then◌else◌, [], Option, Some, None, Ok, Err}
use Rattle.toml.specs.Data.{no_members}
use Rattle.pkg_world.specs.Each.{then_ok}
use Rattle.pkg_world.specs.Path.{Path}
use Rattle.pkg_world.specs.Tree.{Files, holds, is_file}
use Rattle.pkg_world.specs.declared.place.Home.{Home}
use Rattle.pkg_world.specs.declared.place.Place.{Place}
use Rattle.registry_tables.specs.Answers.{Read, missing}
use Rattle.registry_tables.specs.declared.fault.RegFault.{RegFault}
use Rattle.registry_tables.specs.declared.fault.RegFault.TheVariants.{ReadFault, MissingFile, BadFile, Memory}
use Rattle.project_file.specs.Said as project
use Rattle.manifest_file.specs.Said.{said as said_manifest}
use Rattle.manifest_file.specs.Saying as manifest
use Rattle.project_places.specs.Active.{active_file}
use Rattle.project_places.specs.Files as places
use Rattle.project_places.specs.ManifestPath.{manifest_path}
use Rattle.fixed_packages.specs.FixedPackages.{read_as, project_needed}
use Rattle.home_files.specs.declared.reading.HomeFiles as code

pub record HomeFiles : Type 0 where
  pub home : Home
  pub project : project.Said
  pub manifest : manifest.Said

-- both files without the room of their lists
abbrev pub seen : code.HomeFiles → HomeFiles
seen it = record { home = it.home; project = project.said it.project; manifest = said_manifest it.manifest }

abbrev pub manifest_read : Files → Path → Read manifest.Said
manifest_read files path = read_as (places.at_file path (places.manifest_in (holds path files)))

-- the manifest at a path, which must be there
abbrev pub manifest_needed : Files → Path → Read manifest.Said
manifest_needed files path = if is_file (holds path files) then manifest_read files path else Err (missing path)

-- the manifest at a path, and whether it must be there
abbrev pub manifest_by : Bool → Files → Path → Read manifest.Said
manifest_by needed files path = if needed then manifest_needed files path else manifest_read files path

abbrev pub joined : Path → project.Said → Path → manifest.Said → HomeFiles
joined file said path found = record { home = record { project = file; manifest = path }; project = said; manifest = found }

abbrev pub with_manifest : Bool → Files → Path → project.Said → Path → Read HomeFiles
with_manifest needed files file said path = then_ok (manifest_by needed files path) (λ found. Ok (joined file said path found))

abbrev pub with_project : Bool → Files → Path → project.Said → Read HomeFiles
with_project needed files file said = then_ok (read_as (places.at_file file (manifest_path files file said.manifest))) (with_manifest needed files file said)

abbrev pub at_file : Bool → Files → Path → Read HomeFiles
at_file needed files file = then_ok (project_needed files file) (with_project needed files file)

-- what the file of a project without any key says
abbrev pub empty_project : project.Said
empty_project =
    record {
      name = None;
      uuid = None;
      version = None;
      deps = [];
      weakdeps = [];
      extensions = [];
      compat = [];
      extras = [];
      sources = [];
      manifest = None;
      rest = no_members;
    }

abbrev pub or_empty : Option project.Said → project.Said
or_empty None = empty_project
or_empty (Some said) = said

-- what the project file at a path says; one that isn't there is empty
abbrev pub project_or_empty : Files → Path → Read project.Said
project_or_empty files file = then_ok (read_as (places.at_file file (places.project_in (holds file files)))) (λ found. Ok (or_empty found))

abbrev pub begun_at : Files → Path → Read HomeFiles
begun_at files file = then_ok (project_or_empty files file) (with_project false files file)

-- both files, neither of which need be there
abbrev pub begun_files : Files → Place → Read HomeFiles
begun_files files place = begun_at files (active_file files place)

abbrev pub project_files : Bool → Files → Place → Read HomeFiles
project_files needed files place = at_file needed files (active_file files place)

-- both files, which must be there
abbrev pub home_files : Files → Place → Read HomeFiles
home_files files place = project_files true files place

-- the fault of a file that isn't there, or want of memory
abbrev pub IsMissing : Path → RegFault → Type 0
IsMissing path (ReadFault at) = ⊥
IsMissing path (MissingFile at) = at ≡ path
IsMissing path (BadFile at cause) = ⊥
IsMissing path Memory = Unit {0}
