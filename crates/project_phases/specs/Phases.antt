-- What the phases of a command on a project give before its packages are chosen, or the status with which the first that is
-- refused ends it: the project's two files and the files of the catalog, in this order; the folder of a package that is to be
-- developed; the edit, with Julia's version and then what is to be fetched; the tables of the packages that are reached, roots
-- without a source, and too many packages. (Own rules.)
--     opened_in needed files place             the files; the manifest must be there where it is needed
--     begun_in files place                     the files, where the project file need not be there either
--     command_in files wish                    the command, by the project file of the folder that is to be developed
--     edited_as command place opened           the edit
--     booked_in files catalog demand extra     the book, with these packages beside the roots
use Rattle.std.specs.Prelude.{Bool, ◌&&◌, if◌then◌else◌, List, Option, Some, None, is_some, Result, Ok, Err}
use Rattle.pkg_world.specs.Each.{then_ok}
use Rattle.pkg_world.specs.Path.{Path}
use Rattle.pkg_world.specs.Tree.{Files, holds}
use Rattle.pkg_world.specs.declared.place.Place.{Place}
use Rattle.project_file.specs.Said as project
use Rattle.manifest_file.specs.Saying as manifest
use Rattle.manifest_file.specs.Said.{said as said_manifest}
use Rattle.offer_terms.specs.Offered.{Id}
use Rattle.offer_terms.specs.Booked.{Packed}
use Rattle.offer_terms.specs.Demanded.{Wanted}
use Rattle.offer_catalog.specs.SaidCatalog.{SaidCatalog}
use Rattle.offer_catalog.specs.Catalogued.{catalogued}
use Rattle.offer_book.specs.Scope.{scope}
use Rattle.offer_book.specs.Gathered.{gathered}
use Rattle.fixed_packages.specs.FixedPackages.{read_as}
use Rattle.home_files.specs.HomeFiles.{HomeFiles, begun_files, project_files}
use Rattle.project_places.specs.Active.{file_in}
use Rattle.project_places.specs.Files.{at_file, project_in}
use Rattle.pkg_commands.specs.Edit.{Edited, edited}
use Rattle.pkg_commands.specs.Commands.{SaidCommand, develop, said_command}
use Rattle.command_answers.specs.declared.status.Status.{Status}
use Rattle.command_answers.specs.declared.status.Status.TheVariants.{NotAProject}
use Rattle.project_phases.specs.Refusals.{told_read, told_edit, told_book}
use Rattle.project_phases.specs.declared.developing.Wish as wishes
use Rattle.project_phases.specs.declared.developing.Wish.TheVariants.{Ready, Develop}
use Rattle.project_phases.specs.declared.opening.Opened as code

-- what the files say before the edit
pub record Opened : Type 0 where
  pub catalog : SaidCatalog
  pub project : project.Said
  pub manifest : manifest.Said

-- the same without the room of its lists
abbrev pub seen : code.Opened → Opened
seen it = record { catalog = it.catalog; project = project.said it.project; manifest = said_manifest it.manifest }

abbrev pub with_catalog : HomeFiles → SaidCatalog → Opened
with_catalog it catalog = record { catalog = catalog; project = it.project; manifest = it.manifest }

abbrev pub with_files : Files → Place → HomeFiles → Result Opened Status
with_files files place it = then_ok (told_read (catalogued files place it.home it.project it.manifest)) (λ catalog. Ok (with_catalog it catalog))

abbrev pub opened_in : Bool → Files → Place → Result Opened Status
opened_in needed files place = then_ok (told_read (project_files needed files place)) (with_files files place)

abbrev pub begun_in : Files → Place → Result Opened Status
begun_in files place = then_ok (told_read (begun_files files place)) (with_files files place)

-- a command, or the folder of the package that is to be developed
pub data SaidWish : Type 0 where
  ready : SaidCommand → SaidWish
  folder : Path → SaidWish

abbrev pub said_wish : wishes.Wish → SaidWish
said_wish (Ready command) = ready (said_command command)
said_wish (Develop path) = folder path

-- what the project file at a path says; None where no file is there
abbrev pub project_read : Files → Path → Result (Option project.Said) Status
project_read files file = told_read (read_as (at_file file (project_in (holds file files))))

-- the same of a folder
abbrev pub folder_project : Files → Path → Result (Option project.Said) Status
folder_project files path = project_read files (file_in files path)

-- the project of a package has a name and an identifier
abbrev pub is_package : project.Said → Bool
is_package said = is_some said.name && is_some said.uuid

abbrev pub developed : Path → Option project.Said → Result SaidCommand Status
developed path None = Err (NotAProject path)
developed path (Some said) = if is_package said then Ok (develop path said) else Err (NotAProject path)

abbrev pub command_in : Files → SaidWish → Result SaidCommand Status
command_in files (ready command) = Ok command
command_in files (folder path) = then_ok (folder_project files path) (developed path)

abbrev pub edited_as : SaidCommand → Place → Opened → Result Edited Status
edited_as command place it = told_edit (edited command it.catalog place it.project it.manifest)

abbrev pub booked_in : Files → SaidCatalog → Wanted → List Id → Result (List Packed) Status
booked_in files catalog w extra = told_book (gathered files catalog (scope w) extra)
