-- What is due where the phases before the search are not refused.
use Rattle.std.proofs.Common.{◌≡◌, ℕ, ◌<◌, ◌≤◌, Bool, true, false, cond, List, [], Option, None, Some, Result, Ok, Err, IfErr, refl, subst, arith}
use Rattle.std.specs.Prelude.{◌^◌}
use Rattle.pkg_world.specs.Each.{then_ok}
use Rattle.pkg_world.specs.Listing.{Listing}
use Rattle.pkg_world.specs.Path.{Path}
use Rattle.pkg_world.specs.Tree.{Files, holds}
use Rattle.pkg_world.specs.declared.place.Place.{Place}
use Rattle.registry_tables.specs.Answers.{Read, missing, bad}
use Rattle.offer_terms.specs.Booked.{Packed}
use Rattle.offer_catalog.specs.SaidCatalog.{SaidCatalog}
use Rattle.offer_catalog.specs.Catalogued.{catalogued}
use Rattle.offer_book.specs.Scope.{scope}
use Rattle.offer_book.specs.Gathered.{BookRefusal, unusable, unknown, too_many, gathered}
use Rattle.home_files.specs.HomeFiles.{HomeFiles, begun_files, project_files}
use Rattle.fixed_packages.specs.FixedPackages.{read_as}
use Rattle.project_file.specs.Said as project
use Rattle.project_places.specs.Active.{file_in}
use Rattle.project_places.specs.Files.{at_file, project_in}
use Rattle.project_changes.specs.Refusals.{taken, unknown, unknown_package, ambiguous, not_in_project, not_in_manifest, not_pinned}
use Rattle.pkg_commands.specs.Edit.{Edited, EditRefusal, refused, wrong, to_fetch, edited}
use Rattle.pkg_commands.specs.Commands.{SaidCommand, develop}
use Rattle.refutation_log.specs.declared.node.Node.{Node}
use Rattle.log_text.specs.Text.{text_of}
use Rattle.resolve_core.specs.Laws.{most_nodes}
use Rattle.command_answers.specs.Endings.{SaidWrite, SaidEnding}
use Rattle.command_answers.specs.declared.status.Status.{Status}
use Rattle.command_answers.specs.declared.status.Status.TheVariants.{Ok as StatusOk, BadWords, MissingFile, BadFile, NeedsFetch, NoIdentity, NoSource, Unsatisfiable, GaveUp, ReadFault, WriteFault, Blocked, UnknownName, UnknownPackage, AmbiguousName, Limit, Differs, NotInProject, NotInManifest, NotPinned, NotAProject, NameTaken, WrongJulia, NotBuilt, Memory, SinkFault}
use Rattle.project_phases.specs.Phases.{Opened, SaidWish, ready, folder, is_package, folder_project, developed, command_in, edited_as, booked_in, with_files, with_catalog}
use Rattle.project_phases.specs.Refusals.{told_read, told_edit, told_book}
use Rattle.edit_commands.specs.Orders.{SaidOrder, begins, wish_of, proof_file, options_of}
use Rattle.edit_commands.specs.declared.options.Options.{Options}
use Rattle.edit_commands.specs.EditDue.{Posed, posed_of, opened_by, posed_in, with_wish, with_command, with_edit, IsProof, IsEnding, IsNone, IsToldNone, IsTold, IsAnswerOn, IsDue}
use Rattle.edit_commands.specs.Laws.{SaysBest, HasNone, SaysNone, SaysRefusal, SaysTold, LogsArePrintable}

-- a status that the search doesn't give
abbrev pub IsEarly : Status → Type 0
IsEarly (Unsatisfiable log) = ⊥
IsEarly (GaveUp log) = ⊥
IsEarly _ = Unit {0}

then_early : {S T : Type 0} (phase : Result S Status) (next : S → Result T Status) → IfErr phase IsEarly → ((value : S) → IfErr (next value) IsEarly) → IfErr (then_ok phase next) IsEarly
then_early (Ok value) next here later = later value
then_early (Err refusal) next here later = here

read_early : {T : Type 0} (reading : Read T) → IfErr (told_read reading) IsEarly
read_early (Ok value) = tt
read_early (Err (missing path)) = tt
read_early (Err (bad path cause)) = tt

edit_early : (edit : Result Edited EditRefusal) → IfErr (told_edit edit) IsEarly
edit_early (Ok it) = tt
edit_early (Err (refused (taken uuid))) = tt
edit_early (Err (refused (unknown name))) = tt
edit_early (Err (refused (unknown_package uuid))) = tt
edit_early (Err (refused (ambiguous least next))) = tt
edit_early (Err (refused (not_in_project name))) = tt
edit_early (Err (refused (not_in_manifest name))) = tt
edit_early (Err (refused (not_pinned name))) = tt
edit_early (Err (wrong text)) = tt
edit_early (Err (to_fetch name)) = tt

book_early : (book : Result (List Packed) BookRefusal) → IfErr (told_book book) IsEarly
book_early (Ok it) = tt
book_early (Err (unusable (missing path))) = tt
book_early (Err (unusable (bad path cause))) = tt
book_early (Err (unknown uuid)) = tt
book_early (Err too_many) = tt

files_early : (reading : Read HomeFiles) (files : Files) (place : Place) → IfErr (then_ok (told_read reading) (with_files files place)) IsEarly
files_early reading files place = then_early (told_read reading) (with_files files place) (read_early reading)
    (λ it. then_early (told_read (catalogued files place it.home it.project it.manifest)) (λ catalog. let r : Result Opened Status = Ok (with_catalog it catalog) in r)
    (read_early (catalogued files place it.home it.project it.manifest)) (λ catalog. tt))

opened_early : (begun : Bool) (files : Files) (place : Place) → IfErr (opened_by begun files place) IsEarly
opened_early true files place = files_early (begun_files files place) files place
opened_early false files place = files_early (project_files false files place) files place

developed_early : (path : Path) (found : Option project.Said) → IfErr (developed path found) IsEarly
developed_early path None = tt
developed_early path (Some said) = by_test (is_package said)
  where
    by_test : (is : Bool) → IfErr (cond is (let r : Result SaidCommand Status = Ok (develop path said) in r) (Err (NotAProject path))) IsEarly
    by_test true = tt
    by_test false = tt

command_early : (files : Files) (wish : SaidWish) → IfErr (command_in files wish) IsEarly
command_early files (ready command) = tt
command_early files (folder path) = then_early (folder_project files path) (developed path)
    (read_early (read_as (at_file (file_in files path) (project_in (holds (file_in files path) files))))) (developed_early path)

with_edit_early : (files : Files) (catalog : SaidCatalog) (edit : Edited) → IfErr (with_edit files catalog edit) IsEarly
with_edit_early files catalog edit =
    then_early (booked_in files catalog edit.demand []) (λ book. let r : Result Posed Status = Ok (posed_of files catalog edit book) in r)
    (book_early (gathered files catalog (scope edit.demand) [])) (λ book. tt)

with_command_early : (files : Files) (place : Place) (it : Opened) (command : SaidCommand) → IfErr (with_command files place it command) IsEarly
with_command_early files place it command = then_early (edited_as command place it) (with_edit files it.catalog)
    (edit_early (edited command it.catalog place it.project it.manifest)) (with_edit_early files it.catalog)

with_wish_early : (files : Files) (place : Place) (wish : SaidWish) (it : Opened) → IfErr (with_wish files place wish it) IsEarly
with_wish_early files place wish it = then_early (command_in files wish) (with_command files place it) (command_early files wish) (with_command_early files place it)

posed_early : (files : Files) (place : Place) (order : SaidOrder) → IfErr (posed_in files place order) IsEarly
posed_early files place order = then_early (opened_by (begins order) files place) (with_wish files place (wish_of order))
    (opened_early (begins order) files place) (with_wish_early files place (wish_of order))

differ : {A B : Type 0} (a : A) (b : B) → Ok a ≡ Err b → ⊥
differ a b h = cc

same_refusal : (a b : Status) (one other : Result SaidEnding Status) → one ≡ Err a → other ≡ Err b → one ≡ other → b ≡ a
same_refusal a b one other p q h = cc

-- what the search says can't be an earlier refusal
not_early : (files : Files) (place : Place) (order : SaidOrder) (refusal status : Status) → posed_in files place order ≡ Err refusal → refusal ≡ status → IsEarly status
not_early files place order refusal status is same =
    let early : IfErr (posed_in files place order) IsEarly = posed_early files place order in
    let here : IsEarly refusal = subst (λ r. IfErr r IsEarly) is early in
    subst IsEarly same here

-- ---- endings

module _ (law : LogsArePrintable) (files : Files) (place : Place) (order : SaidOrder) (budget : ℕ) (low : budget < 2 ^ 32) (it : Posed) (is : posed_in files place order ≡ Ok it) where
  abbrev o : Options
  o = options_of order budget

  pub has_none : (log : Listing Node) → IsNone it o log → HasNone files place order log.items
  has_none log due = record { it = it; posed = is; none = due.none; certificate = due.certificate }

  says_best : (line : List ℕ) (writes : List SaidWrite) → IsEnding it o line writes → SaysBest files place order writes
  says_best line writes due =
      record {
        it = it;
        posed = is;
        selected = due.resolved.selection.items;
        found = due.tells.found;
        is_written = due.tells.is_written;
        valid = due.valid;
        best = due.best;
      }

  says_none : (log : Listing Node) (writes : List SaidWrite) → IsNone it o log → (proof : Option Path) → proof_file order ≡ proof → IsProof proof log writes
      → SaysNone files place order writes log.items
  says_none log writes none None same proof = absurd proof
  says_none log writes none (Some file) same proof =
      record {
        none = has_none log none;
        file = file;
        named = same;
        text = text_of log.items;
        only = proof;
        reads = record { printable = (law it.question.book it.question.wanted budget log low).0 none.answer; told = refl };
      }

  says_refusal : (status : Status) (writes : List SaidWrite) → IsToldNone it o status writes → SaysRefusal files place order writes status
  says_refusal StatusOk writes h = h
  says_refusal (BadWords word) writes h = h
  says_refusal (MissingFile at) writes h = h
  says_refusal (BadFile at cause) writes h = h
  says_refusal (NeedsFetch name) writes h = h
  says_refusal (NoIdentity name) writes h = h
  says_refusal (NoSource uuid) writes h = h
  says_refusal (Unsatisfiable log) writes h = says_none log writes h.0 (proof_file order) refl h.1
  says_refusal (GaveUp log) writes h = h
  says_refusal (ReadFault at) writes h = h
  says_refusal (WriteFault at) writes h = h
  says_refusal (Blocked at) writes h = h
  says_refusal (UnknownName name) writes h = h
  says_refusal (UnknownPackage uuid) writes h = h
  says_refusal (AmbiguousName first second) writes h = h
  says_refusal (Limit kind count) writes h = h
  says_refusal (Differs difference) writes h = h
  says_refusal (NotInProject name) writes h = h
  says_refusal (NotInManifest name) writes h = h
  says_refusal (NotPinned name) writes h = h
  says_refusal (NotAProject at) writes h = h
  says_refusal (NameTaken uuid) writes h = h
  says_refusal (WrongJulia text) writes h = h
  says_refusal (NotBuilt word) writes h = h
  says_refusal Memory writes h = h
  says_refusal SinkFault writes h = h

  pub says_told : (told : Result (List ℕ) Status) (writes : List SaidWrite) → IsTold it o told writes → SaysTold files place order writes told
  says_told (Ok line) writes h = says_best line writes h
  says_told (Err status) writes h = says_refusal status writes h

best_of : LogsArePrintable → (files : Files) (place : Place) (order : SaidOrder) (budget : ℕ) (e : SaidEnding) (posed : Result Posed Status) → posed_in files place order ≡ posed
    → budget < 2 ^ 32 → IsAnswerOn posed (options_of order budget) (Ok e) → SaysTold files place order e.writes e.told
best_of law files place order budget e (Ok it) is low due = says_told law files place order budget low it is e.told e.writes due
best_of law files place order budget e (Err refusal) is low due = absurd (differ e refusal due)

pub ending_best : LogsArePrintable → (files : Files) (place : Place) (order : SaidOrder) (budget : ℕ) (e : SaidEnding) → budget < 2 ^ 32
    → IsDue files place order budget (Ok e) → SaysTold files place order e.writes e.told
ending_best law files place order budget e low due = best_of law files place order budget e (posed_in files place order) refl low due

-- ---- refusals

none_of : (files : Files) (place : Place) (order : SaidOrder) (budget : ℕ) (log : Listing Node) (posed : Result Posed Status) → posed_in files place order ≡ posed
    → IsAnswerOn posed (options_of order budget) (Err (Unsatisfiable log)) → HasNone files place order log.items × (proof_file order ≡ None)
none_of files place order budget log (Ok it) is due = (record { it = it; posed = is; none = due.0.none; certificate = due.0.certificate }, due.1)
none_of files place order budget log (Err refusal) is due =
    let same : refusal ≡ Unsatisfiable log = same_refusal (Unsatisfiable log) refusal (Err (Unsatisfiable log)) (Err refusal) refl refl due in
    absurd (not_early files place order refusal (Unsatisfiable log) is same)

pub none_none : (files : Files) (place : Place) (order : SaidOrder) (budget : ℕ) (log : Listing Node)
    → IsDue files place order budget (Err (Unsatisfiable log)) → HasNone files place order log.items × (proof_file order ≡ None)
none_none files place order budget log due = none_of files place order budget log (posed_in files place order) refl due

pub ample : (files : Files) (place : Place) (order : SaidOrder) (budget : ℕ) (log : Listing Node) (it : Posed) → posed_in files place order ≡ Ok it
    → most_nodes it.question.book ≤ budget → IsDue files place order budget (Err (GaveUp log)) → ⊥
ample files place order budget log it is enough due =
    let o = options_of order budget in
    let here : IsAnswerOn (Ok it) o (Err (GaveUp log)) = subst (λ r. IsAnswerOn r o (Err (GaveUp log))) is due in
    let below : budget < most_nodes it.question.book = here.below in
    omega (arith, below, enough)
