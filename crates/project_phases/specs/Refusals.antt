-- With which status a phase ends a command where it is refused.
use Rattle.std.specs.Prelude.{ℕ, List, Option, Some, None, Result, Ok, Err}
use Rattle.pkg_world.specs.declared.cause.LimitKind.TheVariants.{Packages}
use Rattle.registry_tables.specs.Answers.{Read, missing, bad}
use Rattle.offer_terms.specs.Booked.{Packed}
use Rattle.offer_catalog.specs.declared.fault.BookFault.{BookFault}
use Rattle.offer_catalog.specs.declared.fault.BookFault.TheVariants as faults
use Rattle.offer_book.specs.Gathered.{BookRefusal, unusable, unknown, too_many}
use Rattle.project_changes.specs.Refusals.{ChangeRefusal, taken, unknown, unknown_package, ambiguous, not_in_project, not_in_manifest, not_pinned}
use Rattle.pkg_commands.specs.declared.fault.EditFault.{EditFault}
use Rattle.pkg_commands.specs.declared.fault.EditFault.TheVariants as edits
use Rattle.pkg_commands.specs.Edit.{Edited, EditRefusal, refused, wrong, to_fetch}
use Rattle.command_answers.specs.declared.status.Status.{Status}
use Rattle.command_answers.specs.declared.status.Status.TheVariants.{MissingFile, BadFile, NeedsFetch, ReadFault, UnknownName, UnknownPackage, AmbiguousName, Limit, NotInProject, NotInManifest, NotPinned, NameTaken, WrongJulia, Memory}

abbrev pub told_read : {T : Type 0} → Read T → Result T Status
told_read (Ok value) = Ok value
told_read (Err (missing path)) = Err (MissingFile path)
told_read (Err (bad path cause)) = Err (BadFile path cause)

-- the status that tells why a change of the project is refused
abbrev pub change_status : ChangeRefusal → Status
change_status (taken uuid) = NameTaken uuid
change_status (unknown name) = UnknownName name
change_status (unknown_package uuid) = UnknownPackage uuid
change_status (ambiguous least next) = AmbiguousName least next
change_status (not_in_project name) = NotInProject name
change_status (not_in_manifest name) = NotInManifest name
change_status (not_pinned name) = NotPinned name

abbrev pub told_edit : Result Edited EditRefusal → Result Edited Status
told_edit (Ok it) = Ok it
told_edit (Err (refused refusal)) = Err (change_status refusal)
told_edit (Err (wrong text)) = Err (WrongJulia text)
told_edit (Err (to_fetch name)) = Err (NeedsFetch name)

abbrev pub told_book : Result (List Packed) BookRefusal → Result (List Packed) Status
told_book (Ok book) = Ok book
told_book (Err (unusable (missing path))) = Err (MissingFile path)
told_book (Err (unusable (bad path cause))) = Err (BadFile path cause)
told_book (Err (unknown uuid)) = Err (UnknownPackage uuid)
told_book (Err too_many) = Err (Limit Packages 4097)

-- the status that tells a fault of the catalog or of a book
abbrev pub book_status : BookFault → Status
book_status (faults.ReadFault path) = ReadFault path
book_status (faults.MissingFile path) = MissingFile path
book_status (faults.BadFile path cause) = BadFile path cause
book_status (faults.UnknownPackage uuid) = UnknownPackage uuid
book_status (faults.Limit kind count) = Limit kind count
book_status faults.Memory = Memory

-- the package that nothing offers, where a fault tells that
abbrev pub unknown_in : BookFault → Option (List ℕ)
unknown_in (faults.ReadFault path) = None
unknown_in (faults.MissingFile path) = None
unknown_in (faults.BadFile path cause) = None
unknown_in (faults.UnknownPackage uuid) = Some uuid
unknown_in (faults.Limit kind count) = None
unknown_in faults.Memory = None

-- the status that tells a fault of an edit
abbrev pub edit_status : EditFault → Status
edit_status (edits.NameTaken uuid) = NameTaken uuid
edit_status (edits.UnknownName name) = UnknownName name
edit_status (edits.UnknownPackage uuid) = UnknownPackage uuid
edit_status (edits.AmbiguousName least next) = AmbiguousName least next
edit_status (edits.NotInProject name) = NotInProject name
edit_status (edits.NotInManifest name) = NotInManifest name
edit_status (edits.NotPinned name) = NotPinned name
edit_status (edits.WrongJulia text) = WrongJulia text
edit_status (edits.NeedsFetch name) = NeedsFetch name
edit_status edits.Memory = Memory

-- the same of a fault that tells identifiers
abbrev pub identity_status : EditFault → Option Status
identity_status (edits.NameTaken uuid) = Some (NameTaken uuid)
identity_status (edits.UnknownPackage uuid) = Some (UnknownPackage uuid)
identity_status (edits.AmbiguousName least next) = Some (AmbiguousName least next)
identity_status _ = None
