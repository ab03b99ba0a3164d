-- A fault of the catalog or of gathering is told as the phase refuses.
use Rattle.std.proofs.Common.{◌≡◌, ℕ, List, Option, Some, None, IfSome, Result, Ok, Err, MatchResult, sym, ap, ◌∙◌, subst}
use Rattle.pkg_world.specs.Each.{then_ok}
use Rattle.pkg_world.specs.Tree.{Files}
use Rattle.pkg_world.specs.declared.cause.LimitKind.{LimitKind}
use Rattle.pkg_world.specs.declared.cause.LimitKind.TheVariants.{Packages}
use Rattle.registry_tables.specs.Answers.{Read}
use Rattle.offer_terms.specs.Booked.{Packed}
use Rattle.offer_catalog.specs.Answers.{Refuses as CatalogRefuses, ReadFaultRose as CatalogRose}
use Rattle.offer_catalog.specs.declared.fault.BookFault.{BookFault}
use Rattle.offer_catalog.specs.declared.fault.BookFault.TheVariants.{ReadFault, MissingFile, BadFile, UnknownPackage, Limit, Memory}
use Rattle.offer_book.specs.Gathered.{BookRefusal, Refuses as BookRefuses}
use Rattle.pkg_commands.specs.Edit.{Edited, EditRefusal, Refuses as EditRefuses}
use Rattle.pkg_commands.specs.declared.fault.EditFault.{EditFault}
use Rattle.pkg_commands.specs.declared.fault.EditFault.TheVariants as edits
use Rattle.command_answers.specs.Answers.{Refuses, ReadFaultRose, NoFault, IsLate, IsUnprinted}
use Rattle.command_answers.specs.declared.status.Status.{Status}
use Rattle.command_answers.specs.declared.status.Status.TheVariants as status
use Rattle.project_phases.specs.Refusals.{told_read, told_edit, told_book, book_status, edit_status}

catalog_ends : {S T : Type 0} (reading : Read S) (next : S → Result T Status) (fault : BookFault) → CatalogRefuses reading fault
    → Refuses (then_ok (told_read reading) next) (book_status fault)
catalog_ends reading next (ReadFault path) h = tt
catalog_ends reading next (MissingFile path) h = ap (λ r. then_ok (told_read r) next) h
catalog_ends reading next (BadFile path cause) h = ap (λ r. then_ok (told_read r) next) h
catalog_ends reading next (UnknownPackage uuid) h = absurd h
catalog_ends reading next (Limit kind count) h = absurd h
catalog_ends reading next Memory h = tt

-- a catalog that is refused ends the command so
pub catalog_refuses : {S T : Type 0} (told : Option Files) (reading : Files → Read S) (next : S → Result T Status) (fault : BookFault) (ended : Status) → ended ≡ book_status fault
    → IfSome told (λ files. CatalogRefuses (reading files) fault) → IfSome told (λ files. Refuses (then_ok (told_read (reading files)) next) ended)
catalog_refuses None reading next fault ended same h = tt
catalog_refuses (Some files) reading next fault ended same h =
    subst (Refuses (then_ok (told_read (reading files)) next)) (sym same) (catalog_ends (reading files) next fault h)

limit_as : (kind : LimitKind) (count : ℕ) → kind ≡ Packages → count ≡ 4097 → status.Limit Packages 4097 ≡ status.Limit kind count
limit_as kind count k c = ap (λ x. status.Limit x 4097) (sym k) ∙ ap (status.Limit kind) (sym c)

book_ends : (book : Result (List Packed) BookRefusal) (fault : BookFault) → BookRefuses book fault → Refuses (told_book book) (book_status fault)
book_ends book (ReadFault path) h = tt
book_ends book (MissingFile path) h = ap told_book h
book_ends book (BadFile path cause) h = ap told_book h
book_ends book (UnknownPackage uuid) h = ap told_book h
book_ends book (Limit kind count) (k, c, h) = ap told_book h ∙ ap Err (limit_as kind count k c)
book_ends book Memory h = tt

-- a book that is refused ends the command so
pub book_refuses : (told : Option Files) (book : Files → Result (List Packed) BookRefusal) (fault : BookFault) (ended : Status) → ended ≡ book_status fault
    → IfSome told (λ files. BookRefuses (book files) fault) → IfSome told (λ files. Refuses (told_book (book files)) ended)
book_refuses None book fault ended same h = tt
book_refuses (Some files) book fault ended same h = subst (Refuses (told_book (book files))) (sym same) (book_ends (book files) fault h)

late : (fault : BookFault) → IsLate (book_status fault)
late (ReadFault path) = tt
late (MissingFile path) = tt
late (BadFile path cause) = tt
late (UnknownPackage uuid) = tt
late (Limit kind count) = tt
late Memory = tt

pub late_as : (fault : BookFault) (ended : Status) → ended ≡ book_status fault → IsLate ended
late_as fault ended same = subst IsLate (sym same) (late fault)

unprinted : (fault : BookFault) → IsUnprinted (book_status fault)
unprinted (ReadFault path) = tt
unprinted (MissingFile path) = tt
unprinted (BadFile path cause) = tt
unprinted (UnknownPackage uuid) = tt
unprinted (Limit kind count) = tt
unprinted Memory = tt

pub unprinted_as : (fault : BookFault) (ended : Status) → ended ≡ book_status fault → IsUnprinted ended
unprinted_as fault ended same = subst IsUnprinted (sym same) (unprinted fault)

rose : (before now : ℕ) (fault : BookFault) → CatalogRose before now fault → ReadFaultRose before now (book_status fault)
rose before now (ReadFault path) h = h
rose before now (MissingFile path) h = tt
rose before now (BadFile path cause) h = tt
rose before now (UnknownPackage uuid) h = tt
rose before now (Limit kind count) h = tt
rose before now Memory h = tt

pub rose_as : (before now : ℕ) (fault : BookFault) (ended : Status) → ended ≡ book_status fault → CatalogRose before now fault → ReadFaultRose before now ended
rose_as before now fault ended same h = subst (ReadFaultRose before now) (sym same) (rose before now fault h)

-- ---- an edit that is refused

edit_ends : (edit : Result Edited EditRefusal) (fault : EditFault) → EditRefuses edit fault → Refuses (told_edit edit) (edit_status fault)
edit_ends edit (edits.NameTaken uuid) h = ap told_edit h
edit_ends edit (edits.UnknownName name) h = ap told_edit h
edit_ends edit (edits.UnknownPackage uuid) h = ap told_edit h
edit_ends edit (edits.AmbiguousName least next) h = ap told_edit h
edit_ends edit (edits.NotInProject name) h = ap told_edit h
edit_ends edit (edits.NotInManifest name) h = ap told_edit h
edit_ends edit (edits.NotPinned name) h = ap told_edit h
edit_ends edit (edits.WrongJulia text) h = ap told_edit h
edit_ends edit (edits.NeedsFetch name) h = ap told_edit h
edit_ends edit edits.Memory h = tt

pub edit_refuses : (edit : Result Edited EditRefusal) (fault : EditFault) (ended : Status) → ended ≡ edit_status fault → EditRefuses edit fault → Refuses (told_edit edit) ended
edit_refuses edit fault ended same h = subst (Refuses (told_edit edit)) (sym same) (edit_ends edit fault h)

abbrev IsCalm : Status → Type 0
IsCalm ended = IsLate ended × IsUnprinted ended × NoFault ended

calm : (fault : EditFault) → IsCalm (edit_status fault)
calm (edits.NameTaken uuid) = (tt, tt, tt)
calm (edits.UnknownName name) = (tt, tt, tt)
calm (edits.UnknownPackage uuid) = (tt, tt, tt)
calm (edits.AmbiguousName least next) = (tt, tt, tt)
calm (edits.NotInProject name) = (tt, tt, tt)
calm (edits.NotInManifest name) = (tt, tt, tt)
calm (edits.NotPinned name) = (tt, tt, tt)
calm (edits.WrongJulia text) = (tt, tt, tt)
calm (edits.NeedsFetch name) = (tt, tt, tt)
calm edits.Memory = (tt, tt, tt)

pub calm_as : (fault : EditFault) (ended : Status) → ended ≡ edit_status fault → IsLate ended × IsUnprinted ended × NoFault ended
calm_as fault ended same = subst IsCalm (sym same) (calm fault)

-- ---- a phase that gives something, and what follows it

pub goes_on : {R S T : Type 0} (told : Option Files) (phase : Files → Result S Status) (next : S → Result T Status) (value : S) → IfSome told (λ files. phase files ≡ Ok value)
    → (said : R → T) (answer : Result R Status) → MatchResult answer (λ it. next value ≡ Ok (said it)) (Refuses (next value))
    → IfSome told (λ files. MatchResult answer (λ it. then_ok (phase files) next ≡ Ok (said it)) (Refuses (then_ok (phase files) next)))
goes_on None phase next value is said answer h = tt
goes_on (Some files) phase next value is said answer h =
    subst (λ r. MatchResult answer (λ it. then_ok r next ≡ Ok (said it)) (Refuses (then_ok r next))) (sym is) h
