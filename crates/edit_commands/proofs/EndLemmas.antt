-- A refusal of a phase ends the command, and what follows a phase ends it otherwise.
use Rattle.std.proofs.Common.{◌≡◌, ℕ, Bool, List, [], Option, Some, None, IfSome, Result, Ok, Err, refl, sym, ap, subst}
use Rattle.pkg_world.specs.Each.{then_ok}
use Rattle.pkg_world.specs.Tree.{Files}
use Rattle.pkg_world.specs.declared.place.Place.{Place}
use Rattle.registry_tables.specs.Answers.{missing, bad}
use Rattle.offer_terms.specs.Offered.{Id}
use Rattle.offer_terms.specs.Booked.{Packed}
use Rattle.offer_catalog.specs.SaidCatalog.{SaidCatalog}
use Rattle.offer_book.specs.Scope.{scope}
use Rattle.offer_book.specs.Gathered.{BookRefusal, unusable, unknown, too_many, gathered}
use Rattle.book_graph.specs.StandsFor.{IsBook}
use Rattle.pkg_commands.specs.Edit.{Edited}
use Rattle.command_answers.proofs.Endings.{refuses_as, ends_as}
use Rattle.command_answers.specs.Answers.{Refuses}
use Rattle.command_answers.specs.Endings.{RefusesBy, EndsBy}
use Rattle.command_answers.specs.declared.ending.Ending.{Ending}
use Rattle.command_answers.specs.declared.status.Status.{Status}
use Rattle.project_phases.specs.Refusals.{told_book}
use Rattle.project_phases.specs.Phases.{SaidWish, booked_in}
use Rattle.edit_commands.specs.Laws.{FoundIsDue}
use Rattle.edit_commands.specs.Orders.{SaidOrder, begins, wish_of, options_of}
use Rattle.edit_commands.specs.EditDue.{Posed, question_of, posed_of, posed_by, with_edit, IsDue, IsFound, IsAnswerTo, IsAnswerOn}
use Rattle.edit_commands.specs.declared.options.Options.{Options}

-- what an equal refusal ends with
ends : {T : Type 0} (phase : Result T Status) (next : T → Result Posed Status) (o : Options) (refusal : Status) → phase ≡ Err refusal
    → IsAnswerOn (then_ok phase next) o (Err refusal)
ends phase next o refusal same = subst (λ r. IsAnswerOn (then_ok r next) o (Err refusal)) (sym same) refl

phase_ends : {T : Type 0} (phase : Result T Status) (next : T → Result Posed Status) (o : Options) (status : Status) → Refuses phase status
    → RefusesBy (IsAnswerOn (then_ok phase next) o) status
phase_ends phase next o status h =
    refuses_as (λ answer. phase ≡ answer) (IsAnswerOn (then_ok phase next) o) (λ refusal same. ends phase next o refusal same) status h

-- a phase that is refused ends the command so
pub phase_refuses : {T : Type 0} (told : Option Files) (phase : Files → Result T Status) (next : Files → T → Result Posed Status) (o : Options) (status : Status)
    → IfSome told (λ files. Refuses (phase files) status) → IfSome told (λ files. RefusesBy (IsAnswerOn (then_ok (phase files) (next files)) o) status)
phase_refuses None phase next o status h = tt
phase_refuses (Some files) phase next o status h = phase_ends (phase files) (next files) o status h

-- and one that gives something, by what follows it
pub phase_goes_on : {T : Type 0} (told : Option Files) (phase : Files → Result T Status) (next : Files → T → Result Posed Status) (o : Options) (value : T)
    → IfSome told (λ files. phase files ≡ Ok value) → (answer : Result Ending Status) → IfSome told (λ files. EndsBy (IsAnswerOn (next files value) o) answer)
    → IfSome told (λ files. EndsBy (IsAnswerOn (then_ok (phase files) (next files)) o) answer)
phase_goes_on None phase next o value is answer h = tt
phase_goes_on (Some files) phase next o value is answer h =
    subst (λ r. EndsBy (IsAnswerOn (then_ok r (next files)) o) answer) (sym is) h

-- what is due by the files that a phase leaves is due by those before it
pub as_before : (Is : Files → Result Ending Status → Type 0) (old new : Option Files) → new ≡ old → (answer : Result Ending Status)
    → IfSome new (λ files. Is files answer) → IfSome old (λ files. Is files answer)
as_before Is old new same answer h = subst (λ told. IfSome told (λ files. Is files answer)) same h

-- the same of a phase that reads no file
everywhere : (told : Option Files) (P : Type 0) → P → IfSome told (λ files. P)
everywhere None P h = tt
everywhere (Some files) P h = h

pub edit_refuses : {T : Type 0} (told : Option Files) (phase : Result T Status) (next : Files → T → Result Posed Status) (o : Options) (status : Status)
    → Refuses phase status → IfSome told (λ files. RefusesBy (IsAnswerOn (then_ok phase (next files)) o) status)
edit_refuses told phase next o status h = phase_refuses told (λ files. phase) next o status (everywhere told (Refuses phase status) h)

pub edit_goes_on : {T : Type 0} (told : Option Files) (phase : Result T Status) (next : Files → T → Result Posed Status) (o : Options) (value : T)
    → phase ≡ Ok value → (answer : Result Ending Status) → IfSome told (λ files. EndsBy (IsAnswerOn (next files value) o) answer)
    → IfSome told (λ files. EndsBy (IsAnswerOn (then_ok phase (next files)) o) answer)
edit_goes_on told phase next o value is answer h =
    phase_goes_on told (λ files. phase) next o value (everywhere told (phase ≡ Ok value) is) answer h

gathers : (gathering : Result (List Packed) BookRefusal) (book : List Packed) → told_book gathering ≡ Ok book → gathering ≡ Ok book
gathers (Ok it) book same = let here : it ≡ book = cc in ap Ok here
gathers (Err (unusable (missing path))) book same = cc
gathers (Err (unusable (bad path cause))) book same = cc
gathers (Err (unknown uuid)) book same = cc
gathers (Err too_many) book same = cc

-- the ending by a book that was gathered
by_book : FoundIsDue → (files : Files) (catalog : SaidCatalog) (edit : Edited) (book : List Packed) (o : Options) → booked_in files catalog edit.demand [] ≡ Ok book → IsBook book
    → (answer : Result Ending Status) → EndsBy (IsFound (question_of edit catalog.home book) o) answer
    → EndsBy (IsAnswerOn (with_edit files catalog edit) o) answer
by_book law files catalog edit book o books sound answer h =
    let q = question_of edit catalog.home book in
    let it = posed_of files catalog edit book in
    let here : gathered files catalog (scope edit.demand) [] ≡ Ok book = gathers (gathered files catalog (scope edit.demand) []) book books in
    let over : EndsBy (IsAnswerTo it o) answer =
    ends_as (IsFound q o) (IsAnswerTo it o) (λ a found. law files catalog edit book o a here sound found) answer h in
    let next = λ (b : List Packed). let r : Result Posed Status = Ok (posed_of files catalog edit b) in r in
    subst (λ r. EndsBy (IsAnswerOn (then_ok r next) o) answer) (sym books) over

pub by_gathered : FoundIsDue → (told : Option Files) (catalog : SaidCatalog) (edit : Edited) (extra : List Id) → extra ≡ [] → (book : List Packed) (o : Options)
    → IfSome told (λ files. booked_in files catalog edit.demand extra ≡ Ok book) → IsBook book → (answer : Result Ending Status)
    → EndsBy (IsFound (question_of edit catalog.home book) o) answer
    → IfSome told (λ files. EndsBy (IsAnswerOn (with_edit files catalog edit) o) answer)
by_gathered law None catalog edit extra none book o books sound answer h = tt
by_gathered law (Some files) catalog edit extra none book o books sound answer h =
    by_book law files catalog edit book o (subst (λ ids. booked_in files catalog edit.demand ids ≡ Ok book) none books) sound answer h

pub book_refuses : (told : Option Files) (catalog : SaidCatalog) (edit : Edited) (extra : List Id) → extra ≡ [] → (o : Options) (status : Status)
    → IfSome told (λ files. Refuses (booked_in files catalog edit.demand extra) status)
    → IfSome told (λ files. RefusesBy (IsAnswerOn (with_edit files catalog edit) o) status)
book_refuses told catalog edit extra none o status h =
    phase_refuses told (λ files. booked_in files catalog edit.demand []) (λ files book. Ok (posed_of files catalog edit book)) o status
    (subst (λ ids. IfSome told (λ files. Refuses (booked_in files catalog edit.demand ids) status)) none h)

-- what is due by the parts of an order is due by the order
pub by_parts : (told : Option Files) (place : Place) (order : SaidOrder) (budget : ℕ) (begun : Bool) (wish : SaidWish) (o : Options) → begun ≡ begins order → wish ≡ wish_of order
    → o ≡ options_of order budget → (answer : Result Ending Status) → IfSome told (λ files. EndsBy (IsAnswerOn (posed_by begun wish files place) o) answer)
    → IfSome told (λ files. EndsBy (IsDue files place order budget) answer)
by_parts told place order budget begun wish o b w same answer h =
    subst (λ x. IfSome told (λ files. EndsBy (IsAnswerOn (posed_by (begins order) (wish_of order) files place) x) answer)) same
    (subst (λ x. IfSome told (λ files. EndsBy (IsAnswerOn (posed_by (begins order) x files place) o) answer)) w
    (subst (λ x. IfSome told (λ files. EndsBy (IsAnswerOn (posed_by x wish files place) o) answer)) b h))
