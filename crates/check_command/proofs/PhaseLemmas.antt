-- A refusal of a phase ends the command, and what follows a phase ends it otherwise.
use Rattle.std.proofs.Common.{◌≡◌, List, Option, Some, None, IfSome, Result, Ok, Err, String, refl, sym, ap, subst}
use Rattle.std.specs.declared.alloc.Global.{Global}
use Rattle.pkg_world.specs.Each.{then_ok}
use Rattle.pkg_world.specs.Tree.{Files}
use Rattle.registry_tables.specs.Answers.{missing, bad}
use Rattle.offer_terms.specs.Offered.{Id}
use Rattle.offer_terms.specs.Booked.{Packed}
use Rattle.offer_terms.specs.Demanded.{Wanted}
use Rattle.offer_catalog.specs.SaidCatalog.{SaidCatalog}
use Rattle.offer_book.specs.Scope.{scope}
use Rattle.offer_book.specs.AllOffers.{all_offers}
use Rattle.offer_book.specs.Gathered.{BookRefusal, unusable, unknown, too_many, gathered}
use Rattle.command_answers.proofs.Endings.{refuses_as}
use Rattle.command_answers.specs.Answers.{Refuses}
use Rattle.command_answers.specs.Endings.{RefusesBy}
use Rattle.command_answers.specs.declared.status.Status.{Status}
use Rattle.project_phases.specs.Refusals.{told_book}
use Rattle.project_phases.specs.Phases.{booked_in}
use Rattle.log_check.specs.Answered.{AnswersBy}
use Rattle.log_check.proofs.AnswerLemmas.{answers_as}
use Rattle.check_command.specs.CheckDue.{Claim, Judged, extra_of, judged_of, judged_by, with_demand, IsJudgement, IsAnswerOn}
use Rattle.check_command.specs.Laws.{JudgedIsDue}

-- what an equal refusal ends with
ends : {T : Type 0} (files : Files) (phase : Result T Status) (next : T → Result Judged Status) (refusal : Status) → phase ≡ Err refusal
    → IsAnswerOn files (then_ok phase next) (Err refusal)
ends files phase next refusal same = subst (λ r. IsAnswerOn files (then_ok r next) (Err refusal)) (sym same) refl

phase_ends : {T : Type 0} (files : Files) (phase : Result T Status) (next : T → Result Judged Status) (status : Status) → Refuses phase status
    → RefusesBy (IsAnswerOn files (then_ok phase next)) status
phase_ends files phase next status h =
    refuses_as (λ answer. phase ≡ answer) (IsAnswerOn files (then_ok phase next)) (λ refusal same. ends files phase next refusal same) status h

-- a phase that is refused ends the command so
pub phase_refuses : {T : Type 0} (told : Option Files) (phase : Files → Result T Status) (next : Files → T → Result Judged Status) (status : Status)
    → IfSome told (λ files. Refuses (phase files) status) → IfSome told (λ files. RefusesBy (IsAnswerOn files (then_ok (phase files) (next files))) status)
phase_refuses None phase next status h = tt
phase_refuses (Some files) phase next status h = phase_ends files (phase files) (next files) status h

-- and one that gives something, by what follows it
pub phase_goes_on : {T : Type 0} (told : Option Files) (phase : Files → Result T Status) (next : Files → T → Result Judged Status) (value : T)
    → IfSome told (λ files. phase files ≡ Ok value) → (answer : Result (String Global) Status) → IfSome told (λ files. AnswersBy (IsAnswerOn files (next files value)) answer)
    → IfSome told (λ files. AnswersBy (IsAnswerOn files (then_ok (phase files) (next files))) answer)
phase_goes_on None phase next value is answer h = tt
phase_goes_on (Some files) phase next value is answer h = subst (λ r. AnswersBy (IsAnswerOn files (then_ok r (next files))) answer) (sym is) h

-- what is due by the files that a phase leaves is due by those before it
pub as_before : (Is : Files → Result (String Global) Status → Type 0) (old new : Option Files) → new ≡ old → (answer : Result (String Global) Status)
    → IfSome new (λ files. Is files answer) → IfSome old (λ files. Is files answer)
as_before Is old new same answer h = subst (λ told. IfSome told (λ files. Is files answer)) same h

-- the same of a phase that reads no file
pub everywhere : (told : Option Files) (P : Type 0) → P → IfSome told (λ files. P)
everywhere None P h = tt
everywhere (Some files) P h = h

pub edit_refuses : {T : Type 0} (told : Option Files) (phase : Result T Status) (next : Files → T → Result Judged Status) (status : Status) → Refuses phase status
    → IfSome told (λ files. RefusesBy (IsAnswerOn files (then_ok phase (next files))) status)
edit_refuses told phase next status h = phase_refuses told (λ files. phase) next status (everywhere told (Refuses phase status) h)

pub edit_goes_on : {T : Type 0} (told : Option Files) (phase : Result T Status) (next : Files → T → Result Judged Status) (value : T) → phase ≡ Ok value
    → (answer : Result (String Global) Status) → IfSome told (λ files. AnswersBy (IsAnswerOn files (next files value)) answer)
    → IfSome told (λ files. AnswersBy (IsAnswerOn files (then_ok phase (next files))) answer)
edit_goes_on told phase next value is answer h = phase_goes_on told (λ files. phase) next value (everywhere told (phase ≡ Ok value) is) answer h

-- the answer on what is claimed
pub claim_as : (told : Option Files) (next : Files → Claim → Result Judged Status) (one other : Claim) → one ≡ other → (answer : Result (String Global) Status)
    → IfSome told (λ files. AnswersBy (IsAnswerOn files (next files one)) answer) → IfSome told (λ files. AnswersBy (IsAnswerOn files (next files other)) answer)
claim_as told next one other same answer h = subst (λ claim. IfSome told (λ files. AnswersBy (IsAnswerOn files (next files claim)) answer)) same h

gathers : (gathering : Result (List Packed) BookRefusal) (book : List Packed) → told_book gathering ≡ Ok book → gathering ≡ Ok book
gathers (Ok it) book same = let here : it ≡ book = cc in ap Ok here
gathers (Err (unusable (missing path))) book same = cc
gathers (Err (unusable (bad path cause))) book same = cc
gathers (Err (unknown uuid)) book same = cc
gathers (Err too_many) book same = cc

-- the answer by a book that was gathered
by_book : JudgedIsDue → (files : Files) (catalog : SaidCatalog) (w : Wanted) (claim : Claim) (book : List Packed) → booked_in files catalog w (extra_of claim) ≡ Ok book
    → (answer : Result (String Global) Status) → AnswersBy (IsJudgement files (judged_by book w claim)) answer
    → AnswersBy (IsAnswerOn files (with_demand files catalog claim w)) answer
by_book law files catalog w claim book books answer h =
    let here : gathered files catalog (scope w) (extra_of claim) ≡ Ok book = gathers (gathered files catalog (scope w) (extra_of claim)) book books in
    let it : Judged = judged_of (all_offers files catalog (scope w)) w claim book in
    let over : AnswersBy (IsJudgement files it) answer =
    answers_as (IsJudgement files (judged_by book w claim)) (IsJudgement files it) (λ a judged. law files catalog w claim book a here judged) answer h in
    let next = λ (b : List Packed). let r : Result Judged Status = Ok (judged_of (all_offers files catalog (scope w)) w claim b) in r in
    subst (λ r. AnswersBy (IsAnswerOn files (then_ok r next)) answer) (sym books) over

pub by_gathered : JudgedIsDue → (told : Option Files) (catalog : SaidCatalog) (w : Wanted) (claim : Claim) (extra : List Id) → extra ≡ extra_of claim → (book : List Packed)
    → IfSome told (λ files. booked_in files catalog w extra ≡ Ok book) → (answer : Result (String Global) Status)
    → IfSome told (λ files. AnswersBy (IsJudgement files (judged_by book w claim)) answer)
    → IfSome told (λ files. AnswersBy (IsAnswerOn files (with_demand files catalog claim w)) answer)
by_gathered law None catalog w claim extra same book books answer h = tt
by_gathered law (Some files) catalog w claim extra same book books answer h =
    by_book law files catalog w claim book (subst (λ ids. booked_in files catalog w ids ≡ Ok book) same books) answer h

pub book_refuses : (told : Option Files) (catalog : SaidCatalog) (w : Wanted) (claim : Claim) (extra : List Id) → extra ≡ extra_of claim → (status : Status)
    → IfSome told (λ files. Refuses (booked_in files catalog w extra) status)
    → IfSome told (λ files. RefusesBy (IsAnswerOn files (with_demand files catalog claim w)) status)
book_refuses told catalog w claim extra same status h =
    phase_refuses told (λ files. booked_in files catalog w (extra_of claim)) (λ files book. Ok (judged_of (all_offers files catalog (scope w)) w claim book)) status
    (subst (λ ids. IfSome told (λ files. Refuses (booked_in files catalog w ids) status)) same h)
