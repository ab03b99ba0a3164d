-- What is true of the answers that are due, in the subject's words.
use Rattle.std.specs.Prelude.{◌≡◌, ℕ, ◌<◌, ◌≤◌, ◌^◌, List, [], ◌∷◌, None, Some, Result, Ok, Err}
use Rattle.jl_versions.specs.declared.version.Version.{Version}
use Rattle.pkg_world.specs.Listing.{Listing}
use Rattle.pkg_world.specs.Path.{Path}
use Rattle.pkg_world.specs.Tree.{Files}
use Rattle.pkg_world.specs.declared.place.Place.{Place}
use Rattle.offer_terms.specs.Offered.{Id, Selected}
use Rattle.offer_terms.specs.Booked.{Packed}
use Rattle.offer_terms.specs.Demanded.{Wanted}
use Rattle.offer_terms.specs.Feasible.{IsFeasible, IsValid, CanRaise}
use Rattle.offer_catalog.specs.SaidCatalog.{SaidCatalog}
use Rattle.offer_book.specs.Scope.{scope}
use Rattle.offer_book.specs.Gathered.{gathered}
use Rattle.refutation_log.specs.declared.node.Node.{Node}
use Rattle.log_text.specs.Text.{IsPrintable, IsTextOf}
use Rattle.instance_search.specs.declared.answer.Answer.TheVariants.{Empty, Spent}
use Rattle.book_graph.specs.StandsFor.{IsBook}
use Rattle.manifest_writing.specs.Writing.{Found}
use Rattle.pkg_commands.specs.Edit.{Edited}
use Rattle.resolve_core.specs.Resolved.{IsAnswer}
use Rattle.resolve_core.specs.Laws.{IsCertificate, most_nodes}
use Rattle.command_answers.specs.Endings.{SaidWrite, SaidEnding}
use Rattle.command_answers.specs.declared.status.Status.{Status}
use Rattle.command_answers.specs.declared.status.Status.TheVariants.{Unsatisfiable, GaveUp}
use Rattle.edit_commands.specs.Orders.{SaidOrder, changes, proof_file}
use Rattle.edit_commands.specs.EditDue.{Posed, question_of, posed_of, posed_in, IsWritten, IsAnswerTo, IsDue, IsFound}
use Rattle.edit_commands.specs.declared.options.Options.{Options}

-- the project file is replaced, where the order changes it, by a text that reads as the edited project, and then the manifest,
-- which says a selection that is valid for the offers of the files and the demand of that project, and in which no package can
-- be raised alone; no other file is
pub record SaysBest (files : Files) (place : Place) (order : SaidOrder) (writes : List SaidWrite) : Type 0 where
  pub it : Posed
  pub posed : posed_in files place order ≡ Ok it
  pub selected : Selected
  pub found : Found
  pub is_written : IsWritten it.question (changes order) found selected writes
  pub valid : IsValid it.offers it.question.wanted selected
  pub best : (u : Id) (v : Version) → CanRaise it.offers it.question.wanted selected u v → ⊥

-- no selection is feasible for the offers of the files and the demand of the project, and the log is a certificate
pub record HasNone (files : Files) (place : Place) (order : SaidOrder) (log : List Node) : Type 0 where
  pub it : Posed
  pub posed : posed_in files place order ≡ Ok it
  pub none : (s : Selected) → IsFeasible it.offers it.question.wanted s → ⊥
  pub certificate : IsCertificate it.question.book it.question.wanted log

-- so it is, and the file that is named for the proof is replaced alone, by a text that reads back as the certificate
pub record SaysNone (files : Files) (place : Place) (order : SaidOrder) (writes : List SaidWrite) (log : List Node) : Type 0 where
  pub none : HasNone files place order log
  pub file : Path
  pub named : proof_file order ≡ Some file
  pub text : List ℕ
  pub only : writes ≡ (file, text) ∷ []
  pub reads : IsTextOf text log

abbrev pub SaysRefusal : Files → Place → SaidOrder → List SaidWrite → Status → Type 0
SaysRefusal files place order writes (Unsatisfiable log) = SaysNone files place order writes log.items
SaysRefusal files place order writes _ = ⊥

abbrev pub SaysTold : Files → Place → SaidOrder → List SaidWrite → Result (List ℕ) Status → Type 0
SaysTold files place order writes (Ok line) = SaysBest files place order writes
SaysTold files place order writes (Err status) = SaysRefusal files place order writes status

-- so is every ending that is due: by its line, or by its refusal
abbrev pub EndingIsBest : Type 0
EndingIsBest = (files : Files) (place : Place) (order : SaidOrder) (budget : ℕ) (e : SaidEnding) → budget < 2 ^ 32
    → IsDue files place order budget (Ok e) → SaysTold files place order e.writes e.told

-- so it is where Unsatisfiable is due, and no file is named for the proof
abbrev pub NoneIsNone : Type 0
NoneIsNone = (files : Files) (place : Place) (order : SaidOrder) (budget : ℕ) (log : Listing Node)
    → IsDue files place order budget (Err (Unsatisfiable log)) → HasNone files place order log.items × (proof_file order ≡ None)

-- GaveUp isn't due at a budget of the product over packages of one more than their states
abbrev pub AmpleBudgetSuffices : Type 0
AmpleBudgetSuffices = (files : Files) (place : Place) (order : SaidOrder) (budget : ℕ) (log : Listing Node) (it : Posed) → posed_in files place order ≡ Ok it
    → most_nodes it.question.book ≤ budget → IsDue files place order budget (Err (GaveUp log)) → ⊥

-- ---- the logs of a search are such as a text can tell, where the budget is below 2^32

abbrev pub LogsArePrintable : Type 0
LogsArePrintable = (book : List Packed) (w : Wanted) (budget : ℕ) (log : Listing Node) → budget < 2 ^ 32
    → (IsAnswer book w budget (Empty log) → IsPrintable log.items) × (IsAnswer book w budget (Spent log) → IsPrintable log.items)

-- ---- what is found by the book that was gathered for the demand is due by the offers of all packages

abbrev pub FoundIsDue : Type 0
FoundIsDue = (files : Files) (catalog : SaidCatalog) (edit : Edited) (book : List Packed) (o : Options) (answer : Result SaidEnding Status)
    → gathered files catalog (scope edit.demand) [] ≡ Ok book → IsBook book → IsFound (question_of edit catalog.home book) o answer
    → IsAnswerTo (posed_of files catalog edit book) o answer
