-- What a command that writes is due to end with: a line, and a manifest that says a selection which is valid for the offers of
-- the files and the demand of the edited project, and in which no package can be raised alone; before it the project file,
-- where the command is one that changes it. Where none is feasible and a file is named for the proof, the certificate stands
-- there. (Pkg, Compatibility, Project.toml and Manifest.toml; the order of refusals, raising, the lines and the proof are own
-- rules.)
--     IsDue files place order budget answer     this ending is due, or this refusal
-- The refusals come in this order: the project file, which must be there unless the command begins one, and the manifest, which
-- is empty where it isn't there; the files of the catalog, and the project file of a folder that is to be developed; the
-- command's edit, Julia's version, and then what is to be fetched; the tables of the packages that are reached from the roots,
-- roots without a source, and too many packages; the limits of instances; that no selection is feasible, or that the budget is
-- spent; and then a date in the project file that no text can tell.
use Rattle.std.specs.Prelude.{◌≡◌, ℕ, ◌<◌, Bool, true, false, not, ◌&&◌, if◌then◌else◌, List, [], ◌∷◌, ◌++◌, map, length, Option, Some, None, Result, Ok, Err}
use Rattle.toml.specs.Data.{members_have_valid_dates}
use Rattle.jl_versions.specs.declared.version.Version.{Version}
use Rattle.pkg_world.specs.Each.{then_ok}
use Rattle.pkg_world.specs.Listing.{Listing}
use Rattle.pkg_world.specs.Path.{Path}
use Rattle.pkg_world.specs.Tree.{Files}
use Rattle.pkg_world.specs.declared.cause.Cause.TheVariants.{BadDate}
use Rattle.pkg_world.specs.declared.place.Home.{Home}
use Rattle.pkg_world.specs.declared.place.Place.{Place}
use Rattle.toml_view.specs.Document.{viewed}
use Rattle.toml_view.specs.declared.print.PrintFault.{PrintFault}
use Rattle.toml_view.specs.declared.print.PrintFault.TheVariants as prints
use Rattle.project_file.specs.Said as project
use Rattle.project_file.specs.Projects.{read_of as project_read}
use Rattle.manifest_file.specs.Saying.{read_of as manifest_read}
use Rattle.manifest_file.specs.Written.{written as table_of}
use Rattle.offer_terms.specs.Offered.{Id, Offers, Selected}
use Rattle.offer_terms.specs.Booked.{Packed}
use Rattle.offer_terms.specs.Demanded.{Wanted}
use Rattle.offer_terms.specs.Feasible.{IsFeasible, IsValid, CanRaise}
use Rattle.offer_catalog.specs.SaidCatalog.{SaidCatalog}
use Rattle.offer_book.specs.Scope.{scope}
use Rattle.offer_book.specs.AllOffers.{all_offers}
use Rattle.refutation_log.specs.declared.node.Node.{Node}
use Rattle.log_text.specs.Text.{text_of}
use Rattle.instance_search.specs.declared.answer.Answer.TheVariants.{Empty, Spent}
use Rattle.version_graph.specs.declared.fault.GraphFault.TheVariants as limits
use Rattle.book_graph.specs.Limits.{IsPast}
use Rattle.resolve_core.specs.Resolved.{IsAnswer, IsResolved}
use Rattle.resolve_core.specs.Laws.{IsCertificate, most_nodes}
use Rattle.resolve_core.specs.Classed.{AreClassesOf, class_said}
use Rattle.resolve_core.specs.declared.classing.Class.{Class}
use Rattle.resolve_core.specs.declared.resolved.Resolved.{Resolved}
use Rattle.manifest_writing.specs.Writing.{Found, written}
use Rattle.resolve_lines.specs.Lines.{resolved_line, class_lines}
use Rattle.pkg_commands.specs.Commands.{SaidCommand}
use Rattle.pkg_commands.specs.Edit.{Edited}
use Rattle.command_answers.specs.Endings.{SaidWrite, SaidEnding}
use Rattle.command_answers.specs.declared.status.Status.{Status}
use Rattle.command_answers.specs.declared.status.Status.TheVariants.{BadFile, Unsatisfiable, GaveUp, Limit}
use Rattle.project_phases.specs.Phases.{Opened, SaidWish, opened_in, begun_in, command_in, edited_as, booked_in}
use Rattle.edit_commands.specs.Orders.{SaidOrder, begins, wish_of, options_of}
use Rattle.edit_commands.specs.declared.options.Options.{Options}

-- ---- what is to be resolved, or the first refusal

-- a demand, the book that is gathered for it, where the project's two files lie, and the edited project
pub record Question : Type 0 where
  pub wanted : Wanted
  pub book : List Packed
  pub home : Home
  pub project : project.Said

-- beside the offers of all packages
pub record Posed : Type 0 where
  pub offers : Offers
  pub question : Question

abbrev pub question_of : Edited → Home → List Packed → Question
question_of edit home book = record { wanted = edit.demand; book = book; home = home; project = edit.project }

abbrev pub posed_of : Files → SaidCatalog → Edited → List Packed → Posed
posed_of files catalog edit book = record { offers = all_offers files catalog (scope edit.demand); question = question_of edit catalog.home book }

-- the book is gathered with no packages beside the roots
abbrev pub with_edit : Files → SaidCatalog → Edited → Result Posed Status
with_edit files catalog edit = then_ok (booked_in files catalog edit.demand []) (λ book. Ok (posed_of files catalog edit book))

abbrev pub with_command : Files → Place → Opened → SaidCommand → Result Posed Status
with_command files place it command = then_ok (edited_as command place it) (with_edit files it.catalog)

abbrev pub with_wish : Files → Place → SaidWish → Opened → Result Posed Status
with_wish files place wish it = then_ok (command_in files wish) (with_command files place it)

abbrev pub opened_by : Bool → Files → Place → Result Opened Status
opened_by begun files place = if begun then begun_in files place else opened_in false files place

abbrev pub posed_by : Bool → SaidWish → Files → Place → Result Posed Status
posed_by begun wish files place = then_ok (opened_by begun files place) (with_wish files place wish)

abbrev pub posed_in : Files → Place → SaidOrder → Result Posed Status
posed_in files place order = posed_by (begins order) (wish_of order) files place

-- ---- what is looked at after the search

-- the extensions that are found in the trees of selected packages: none is looked for yet
abbrev pub extensions_found : Question → Selected → Result Found Status
extensions_found q s = Ok []

-- whether the project file is replaced and has a date that no text can tell
abbrev pub has_bad_date : Bool → project.Said → Bool
has_bad_date rewrites said = rewrites && not (members_have_valid_dates said.rest)

abbrev pub unless_bad_date : Options → Question → Found → Result Found Status
unless_bad_date o q found = if has_bad_date o.rewrites q.project then Err (BadFile q.home.project BadDate) else Ok found

-- the extensions that the manifest says, or the first refusal
abbrev pub finished : Options → Question → Selected → Result Found Status
finished o q s = then_ok (extensions_found q s) (unless_bad_date o q)

-- ---- how what is resolved is told

-- the classes, and then the line of what is resolved
pub record HasClasses (book : List Packed) (w : Wanted) (resolved : Resolved) (line : List ℕ) : Type 0 where
  pub table : List Class
  pub classes : AreClassesOf book w table
  pub told : line ≡ class_lines book (map class_said table) ++ resolved_line (length resolved.selection.items) resolved.nodes

-- the line, and whether the classes come first
abbrev pub IsLine : List Packed → Wanted → Bool → Resolved → List ℕ → Type 0
IsLine book w false resolved line = line ≡ resolved_line (length resolved.selection.items) resolved.nodes
IsLine book w true resolved line = HasClasses book w resolved line

-- the project file is replaced, by a text that reads as the edited project
pub record SaysProject (file : Path) (said : project.Said) (writes : List SaidWrite) : Type 0 where
  pub text : List ℕ
  pub only : writes ≡ (file, text) ∷ []
  pub reads : project_read text ≡ Ok said

-- whether it is
abbrev pub IsFront : Bool → Path → project.Said → List SaidWrite → Type 0
IsFront false file said writes = writes ≡ []
IsFront true file said writes = SaysProject file said writes

-- behind these files the manifest is replaced, by a text that says the selection and reads back so
pub record SaysManifest (q : Question) (found : Found) (s : Selected) (front writes : List SaidWrite) : Type 0 where
  pub text : List ℕ
  pub only : writes ≡ front ++ (q.home.manifest, text) ∷ []
  pub says : viewed text ≡ Ok (table_of (written q.book q.wanted found s))
  pub reads : manifest_read text ≡ Ok (written q.book q.wanted found s)

-- the project file is replaced first, where the command changes it, and then the manifest; no other file is
pub record IsWritten (q : Question) (rewrites : Bool) (found : Found) (s : Selected) (writes : List SaidWrite) : Type 0 where
  pub front : List SaidWrite
  pub is_front : IsFront rewrites q.home.project q.project front
  pub manifest : SaysManifest q found s front writes

-- what the question is resolved to within the budget, and how this is told
pub record Tells (q : Question) (o : Options) (resolved : Resolved) (line : List ℕ) (writes : List SaidWrite) : Type 0 where
  pub resolves : IsResolved q.book q.wanted o.budget resolved
  pub is_line : IsLine q.book q.wanted o.classes resolved line
  pub found : Found
  pub finishes : finished o q resolved.selection.items ≡ Ok found
  pub is_written : IsWritten q o.rewrites found resolved.selection.items writes

-- the file that is named for the proof is replaced alone, by the text of the log
abbrev pub IsProof : Option Path → Listing Node → List SaidWrite → Type 0
IsProof None log writes = ⊥
IsProof (Some file) log writes = writes ≡ (file, text_of log.items) ∷ []

-- ---- the answer

-- the selection is valid, and no package of it can be raised alone
pub record IsEnding (it : Posed) (o : Options) (line : List ℕ) (writes : List SaidWrite) : Type 0 where
  pub resolved : Resolved
  pub tells : Tells it.question o resolved line writes
  pub valid : IsValid it.offers it.question.wanted resolved.selection.items
  pub best : (u : Id) (v : Version) → CanRaise it.offers it.question.wanted resolved.selection.items u v → ⊥

-- no selection is feasible; the search within the budget shows it by a log, which is a certificate
pub record IsNone (it : Posed) (o : Options) (log : Listing Node) : Type 0 where
  pub answer : IsAnswer it.question.book it.question.wanted o.budget (Empty log)
  pub certificate : IsCertificate it.question.book it.question.wanted log.items
  pub none : (s : Selected) → IsFeasible it.offers it.question.wanted s → ⊥

-- the search spends the budget before it finds a solution; a budget that is as great as this product is never spent
pub record IsSpent (it : Posed) (o : Options) (log : Listing Node) : Type 0 where
  pub answer : IsAnswer it.question.book it.question.wanted o.budget (Spent log)
  pub spent : length log.items ≡ o.budget
  pub below : o.budget < most_nodes it.question.book

-- what is resolved isn't told, for the first refusal of what is looked at after the search
pub record IsUnfinished (q : Question) (o : Options) (status : Status) : Type 0 where
  pub resolved : Resolved
  pub resolves : IsResolved q.book q.wanted o.budget resolved
  pub refuses : finished o q resolved.selection.items ≡ Err status

-- the refusal that is told where a file is replaced: that no selection is feasible
abbrev pub IsToldNone : Posed → Options → Status → List SaidWrite → Type 0
IsToldNone it o (Unsatisfiable log) writes = IsNone it o log × IsProof o.proof log writes
IsToldNone it o _ writes = ⊥

abbrev pub IsTold : Posed → Options → Result (List ℕ) Status → List SaidWrite → Type 0
IsTold it o (Ok line) writes = IsEnding it o line writes
IsTold it o (Err status) writes = IsToldNone it o status writes

-- that no selection is feasible refuses at once where no file is named for the proof
abbrev pub IsRefusal : Posed → Options → Status → Type 0
IsRefusal it o (Unsatisfiable log) = IsNone it o log × (o.proof ≡ None)
IsRefusal it o (GaveUp log) = IsSpent it o log
IsRefusal it o (Limit kind count) = IsPast it.question.book it.question.wanted (limits.Limit kind count)
IsRefusal it o status = IsUnfinished it.question o status

abbrev pub IsAnswerTo : Posed → Options → Result SaidEnding Status → Type 0
IsAnswerTo it o (Ok e) = IsTold it o e.told e.writes
IsAnswerTo it o (Err status) = IsRefusal it o status

abbrev pub IsAnswerOn : Result Posed Status → Options → Result SaidEnding Status → Type 0
IsAnswerOn (Ok it) o answer = IsAnswerTo it o answer
IsAnswerOn (Err refusal) o answer = answer ≡ Err refusal

abbrev pub IsDue : Files → Place → SaidOrder → ℕ → Result SaidEnding Status → Type 0
IsDue files place order budget answer = IsAnswerOn (posed_in files place order) (options_of order budget) answer

-- ---- the answer by the book alone

pub record IsFoundEnding (q : Question) (o : Options) (line : List ℕ) (writes : List SaidWrite) : Type 0 where
  pub resolved : Resolved
  pub tells : Tells q o resolved line writes

abbrev pub IsFoundNone : Question → Options → Status → List SaidWrite → Type 0
IsFoundNone q o (Unsatisfiable log) writes = IsAnswer q.book q.wanted o.budget (Empty log) × IsProof o.proof log writes
IsFoundNone q o _ writes = ⊥

abbrev pub IsFoundTold : Question → Options → Result (List ℕ) Status → List SaidWrite → Type 0
IsFoundTold q o (Ok line) writes = IsFoundEnding q o line writes
IsFoundTold q o (Err status) writes = IsFoundNone q o status writes

abbrev pub IsStopped : Question → Options → Status → Type 0
IsStopped q o (Unsatisfiable log) = IsAnswer q.book q.wanted o.budget (Empty log) × (o.proof ≡ None)
IsStopped q o (GaveUp log) = IsAnswer q.book q.wanted o.budget (Spent log)
IsStopped q o (Limit kind count) = IsPast q.book q.wanted (limits.Limit kind count)
IsStopped q o status = IsUnfinished q o status

abbrev pub IsFound : Question → Options → Result SaidEnding Status → Type 0
IsFound q o (Ok e) = IsFoundTold q o e.told e.writes
IsFound q o (Err status) = IsStopped q o status

-- ---- why a project file isn't printed

-- a date that no text can tell, exactly where there is one; want of memory tells nothing
abbrev pub IsDateOf : Bool → PrintFault → Type 0
IsDateOf bad prints.BadDate = bad ≡ true
IsDateOf bad prints.Memory = Unit {0}
