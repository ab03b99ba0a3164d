-- What becomes of a project by the words of `add` and `rm`, and by a folder that is to be developed. Words go one by one, each
-- on the project as the words before it left it. (Pkg, `add`, `rm` and `develop`; which source is dropped is an own rule.)
--     with_words catalog manifest project words     the project to which these are added, or the first refusal
--     without_names project names                   the project without these dependencies, or the first refusal
--     with_package project name id                  the project in which the name is that of a package to be developed
use Rattle.std.specs.Prelude.{◌||◌, if◌then◌else◌, List, [], ◌∷◌, Option, Some, None, Result, Ok, Err}
use Rattle.pkg_world.specs.Each.{then_ok}
use Rattle.project_file.specs.Said as project
use Rattle.project_file.specs.Edits.{has_name, with_dep, without_dep, without_source}
use Rattle.manifest_file.specs.Saying as manifest
use Rattle.offer_terms.specs.Offered.{Text, Id}
use Rattle.offer_catalog.specs.SaidCatalog.{SaidCatalog}
use Rattle.package_names.specs.Names.{added}
use Rattle.package_names.specs.Taken as names
use Rattle.project_changes.specs.Refusals.{ChangeRefusal, of_name, taken, not_in_project}

-- words one by one; the first refusal counts
abbrev pub word_by_word : {W : Type 0} → (project.Said → W → Result project.Said ChangeRefusal) → project.Said → List W → Result project.Said ChangeRefusal
word_by_word change said [] = Ok said
word_by_word change said (word ∷ words) = then_ok (change said word) (λ next. word_by_word change next words)

-- a source that stands at a name which is neither a dependency nor one of the extras is dropped
abbrev pub without_stale_source : Text → project.Said → project.Said
without_stale_source name said = if has_name name said.deps || has_name name said.extras then said else without_source name said

-- the project to which a package is added
abbrev pub with_added : Text → Id → project.Said → project.Said
with_added name id said = with_dep name id (without_stale_source name said)

abbrev pub with_word : SaidCatalog → manifest.Said → project.Said → Text × Option Id → Result project.Said ChangeRefusal
with_word catalog found said word = then_ok (of_name (added catalog said found word.0 word.1)) (λ id. Ok (with_added word.0 id said))

abbrev pub with_words : SaidCatalog → manifest.Said → project.Said → List (Text × Option Id) → Result project.Said ChangeRefusal
with_words catalog found said words = word_by_word (with_word catalog found) said words

abbrev pub without_name : project.Said → Text → Result project.Said ChangeRefusal
without_name said name = if has_name name said.deps then Ok (without_dep name said) else Err (not_in_project name)

abbrev pub without_names : project.Said → List Text → Result project.Said ChangeRefusal
without_names said names = word_by_word without_name said names

abbrev pub unless_taken : Option (Option Id) → project.Said → Result project.Said ChangeRefusal
unless_taken None said = Ok said
unless_taken (Some had) said = Err (taken had)

-- the name is a dependency on this package, and has no source: the folder stands in the manifest
abbrev pub with_package : project.Said → Text → Id → Result project.Said ChangeRefusal
with_package said name id = unless_taken (names.taken said name (Some id)) (without_source name (with_dep name id said))
