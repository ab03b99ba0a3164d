-- What the two files of the active project say, or the first refusal: a project file that must be there, and a manifest
-- that is empty where it isn't.
use Rattle.std.specs.Prelude.{ℕ, List, map, Option, Some, None, Result, Ok, Err}
use Rattle.pkg_world.specs.Each.{then_ok}
use Rattle.pkg_world.specs.Path.{Path}
use Rattle.pkg_world.specs.Tree.{Files, holds}
use Rattle.pkg_world.specs.declared.place.Place.{Place}
use Rattle.project_file.specs.Said as project
use Rattle.manifest_file.specs.Saying as manifest
use Rattle.manifest_file.specs.Said.{said_stanza}
use Rattle.project_places.specs.Active.{active_file}
use Rattle.project_places.specs.Files.{Read, at_file, project_in, manifest_in}
use Rattle.project_places.specs.ManifestPath.{manifest_path}
use Rattle.home_commands.specs.declared.home.Both as code
use Rattle.command_answers.specs.declared.status.Status.{Status}
use Rattle.command_answers.specs.declared.status.Status.TheVariants.{MissingFile, BadFile}

-- where the project file is, the dependencies that it names, and the stanzas of the manifest
pub record Both : Type 0 where
  pub file : Path
  pub deps : List (List ℕ × List ℕ)
  pub stanzas : List manifest.SaidStanza

abbrev pub told_read : {T : Type 0} → Read T → Result T Status
told_read (Ok value) = Ok value
told_read (Err refused) = Err (BadFile refused.0 refused.1)

abbrev pub or_missing : Path → Option project.Said → Result project.Said Status
or_missing file None = Err (MissingFile file)
or_missing file (Some said) = Ok said

abbrev pub with_manifest : Path → project.Said → manifest.Said → Result Both Status
with_manifest file said found = Ok (record { file = file; deps = said.deps; stanzas = found.stanzas })

abbrev pub manifest_at : Files → Path → Result manifest.Said Status
manifest_at files path = told_read (at_file path (manifest_in (holds path files)))

abbrev pub manifest_of : Files → Path → project.Said → Result manifest.Said Status
manifest_of files file said = then_ok (told_read (at_file file (manifest_path files file said.manifest))) (manifest_at files)

abbrev pub both_with : Files → Path → project.Said → Result Both Status
both_with files file said = then_ok (manifest_of files file said) (with_manifest file said)

abbrev pub both_at : Files → Path → Result Both Status
both_at files file = then_ok (then_ok (told_read (at_file file (project_in (holds file files)))) (or_missing file)) (both_with files file)

abbrev pub both_in : Files → Place → Result Both Status
both_in files place = both_at files (active_file files place)

-- both files as lists alone
abbrev pub seen_both : code.Both → Both
seen_both both = record { file = both.file; deps = both.deps.items; stanzas = map said_stanza both.stanzas.items }
