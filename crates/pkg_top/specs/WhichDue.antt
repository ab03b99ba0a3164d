-- What `which` is due to answer: the import of a name from a context over the environments of the load path (Julia manual,
-- Code Loading), and its line. (The line is an own rule.)
use Rattle.std.specs.Prelude.{ℕ, List, [], ◌∷◌, ◌++◌, codes, Result, Ok, Err}
use Rattle.pkg_world.specs.Path.{Path, path_text}
use Rattle.pkg_world.specs.Tree.{Files}
use Rattle.pkg_world.specs.declared.place.Place.{Place}
use Rattle.env_maps.specs.declared.id.Context.{Context}
use Rattle.env_maps.specs.declared.id.Id.{Id}
use Rattle.project_places.specs.Files.{Read}
use Rattle.import_lookup.specs.declared.answer.ImportAnswer.{ImportAnswer}
use Rattle.import_lookup.specs.declared.answer.ImportAnswer.TheVariants.{Found, NoIdentity, NoSource}
use Rattle.import_lookup.specs.Loading.{import_in, names_of}
use Rattle.command_answers.specs.declared.status.Status.{Status}
use Rattle.command_answers.specs.declared.status.Status.TheVariants.{BadFile, NoIdentity as StatusNoIdentity, NoSource as StatusNoSource}
use Rattle.command_answers.specs.Lines.{uuid_text}

-- `NAME UUID PATH`
abbrev pub found_line : Id → Path → List ℕ
found_line id path = id.name ++ (codes " " ++ (uuid_text id.uuid ++ (codes " " ++ (path_text path ++ 10 ∷ []))))

-- the answer of an import as it is told
abbrev pub told_import : List ℕ → ImportAnswer → Result (List ℕ) Status
told_import name (Found id path) = Ok (found_line id path)
told_import name NoIdentity = Err (StatusNoIdentity name)
told_import name (NoSource id) = Err (StatusNoSource id.uuid)

abbrev pub which_of : List ℕ → Read ImportAnswer → Result (List ℕ) Status
which_of name (Err refused) = Err (BadFile refused.0 refused.1)
which_of name (Ok answer) = told_import name answer

-- `which` of a name from a context: the import over the environments of the load path
abbrev pub which_due : Files → Place → Context → List ℕ → Result (List ℕ) Status
which_due files place context name = which_of name (import_in files place (names_of context name) context name)
