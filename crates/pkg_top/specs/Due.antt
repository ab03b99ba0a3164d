-- What a command is due to end with, by its words, its place and the files: the line that it prints and the files that it
-- replaces, or its refusal.
use Rattle.std.specs.Prelude.{◌≡◌, ℕ, List, [], codes, Option, Some, None, Result, Ok, Err, IsOk, IfOk, MatchResult, String}
use Rattle.std.specs.declared.alloc.Global.{Global}
use Rattle.pkg_world.specs.declared.place.Place.{Place}
use Rattle.pkg_world.specs.Path.{Path}
use Rattle.pkg_world.specs.Tree.{Files}
use Rattle.command_answers.specs.declared.status.Status.{Status}
use Rattle.command_answers.specs.declared.status.Status.TheVariants.{BadWords, NotBuilt}
use Rattle.command_answers.specs.declared.ending.Ending.{Ending}
use Rattle.command_answers.specs.Answers.{RefusesEarly, IsTimely}
use Rattle.command_answers.specs.Endings.{SaidEnding}
use Rattle.command_words.specs.declared.asked.Asked as code
use Rattle.command_words.specs.Table.{Word}
use Rattle.command_words.specs.Seen.{asked_of}
use Rattle.command_words.specs.Words.{Asked, which, offers, status, verify, check, resolve, add, remove, pin, free, develop, make, refused_words, asked}
use Rattle.offers_command.specs.OffersDue.{offers_due}
use Rattle.home_commands.specs.StatusDue.{status_due}
use Rattle.home_commands.specs.VerifyDue.{verify_due}
use Rattle.check_command.specs.CheckDue.{IsDue as IsCheckDue}
use Rattle.edit_commands.specs.EditDue.{IsDue as IsEditDue}
use Rattle.edit_commands.specs.Orders as orders
use Rattle.pkg_top.specs.WhichDue.{which_due}

-- the refusal that is due by the words alone; this version does not have `make` yet
abbrev pub early_of : Asked → Option Status
early_of (which name context) = None
early_of (offers name) = None
early_of (status all extensions) = None
early_of (verify name list) = None
early_of (check proof) = None
early_of (resolve budget classes proof) = None
early_of (add named budget) = None
early_of (remove names budget) = None
early_of (pin name version budget) = None
early_of (free name budget) = None
early_of (develop path budget) = None
early_of (make number budget) = Some (NotBuilt (codes "make"))
early_of (refused_words word) = Some (BadWords word)

abbrev pub early_due : Path → List Word → Option Status
early_due cwd words = early_of (asked cwd words)

-- what is asked where the words alone are not refused
abbrev pub AsksFor : Path → List Word → Result code.Asked Status → Type 0
AsksFor cwd words answer = MatchResult answer (λ found. (early_due cwd words ≡ None) × (asked cwd words ≡ asked_of found)) (RefusesEarly (early_due cwd words))

-- what is asked replaces no file
abbrev pub IsReading : Asked → Type 0
IsReading (resolve budget classes proof) = ⊥
IsReading (add named budget) = ⊥
IsReading (remove names budget) = ⊥
IsReading (pin name version budget) = ⊥
IsReading (free name budget) = ⊥
IsReading (develop path budget) = ⊥
IsReading _ = Unit {0}

-- what each command that replaces no file is due to answer; a verdict is due by a relation
abbrev pub IsAnswerOf : Files → Place → Asked → Result (List ℕ) Status → Type 0
IsAnswerOf files place (which name context) answer = which_due files place context name ≡ answer
IsAnswerOf files place (offers name) answer = offers_due files place name ≡ answer
IsAnswerOf files place (status all extensions) answer = status_due files place all extensions ≡ answer
IsAnswerOf files place (verify name list) answer = verify_due files place name list ≡ answer
IsAnswerOf files place (check proof) answer = IsCheckDue files place proof answer
IsAnswerOf files place _ answer = ⊥

-- a line, which is due
abbrev pub IsLine : (Result (List ℕ) Status → Type 0) → Result (List ℕ) Status → Type 0
IsLine IsIt (Ok line) = IsIt (Ok line)
IsLine IsIt (Err refusal) = ⊥

-- the line that is due, and no file is replaced
abbrev pub IsPlain : (Result (List ℕ) Status → Type 0) → Result SaidEnding Status → Type 0
IsPlain IsIt (Ok it) = (it.writes ≡ []) × IsLine IsIt it.told
IsPlain IsIt (Err refusal) = IsIt (Err refusal)

-- what each command is due to end with
abbrev pub IsEndingOf : Files → Place → Asked → Result SaidEnding Status → Type 0
IsEndingOf files place (resolve budget classes proof) answer = IsEditDue files place (orders.resolve classes proof) budget answer
IsEndingOf files place (add named budget) answer = IsEditDue files place (orders.add named) budget answer
IsEndingOf files place (remove names budget) answer = IsEditDue files place (orders.remove names) budget answer
IsEndingOf files place (pin name version budget) answer = IsEditDue files place (orders.pin name version) budget answer
IsEndingOf files place (free name budget) answer = IsEditDue files place (orders.free name) budget answer
IsEndingOf files place (develop path budget) answer = IsEditDue files place (orders.develop path) budget answer
IsEndingOf files place asked answer = IsPlain (IsAnswerOf files place asked) answer

abbrev pub IsDueAfter : Files → Place → Option Status → Asked → Result SaidEnding Status → Type 0
IsDueAfter files place None asked answer = IsEndingOf files place asked answer
IsDueAfter files place (Some refusal) asked answer = Err refusal ≡ answer

-- the answer is due: the refusal by the words alone, else that of the command
abbrev pub IsDue : Files → Place → List Word → Result SaidEnding Status → Type 0
IsDue files place words answer = IsDueAfter files place (early_due place.cwd words) (asked place.cwd words) answer

-- a line as an ending without files
abbrev pub IsEndingWith : Result (String Global) Status → Result Ending Status → Type 0
IsEndingWith answer (Ok it) = (answer ≡ it.told) × IsOk it.told × (it.writes.items ≡ [])
IsEndingWith answer (Err refusal) = answer ≡ Err refusal

-- the refusal by the words, or the ending after them
abbrev pub EndsTimely : Option Status → Result Ending Status → Type 0
EndsTimely early answer = MatchResult answer (λ it. early ≡ None) (IsTimely early)

-- no file is replaced, unless what is asked replaces some
abbrev pub IsStill : Asked → Result Ending Status → Type 0
IsStill asked answer = IsReading asked → IfOk answer (λ it. it.writes.items ≡ [])
