-- The lines that are printed, each ended by a newline. (own rule)
use Rattle.std.specs.Prelude.{ℕ, List, [], ◌∷◌, ◌++◌, length, codes, Option, Some, None}
use Rattle.std.specs.Fmt.{decimal}
use Rattle.uuid.specs.Text.{hyphenated_text, lower}
use Rattle.pkg_world.specs.Path.{path_text}
use Rattle.pkg_world.specs.TreeIds.{tree_text}
use Rattle.pkg_world.specs.declared.cause.Cause.{Cause}
use Rattle.pkg_world.specs.declared.cause.Cause.TheVariants.{BadToml, Deep, BadDate, BadShape, BadVersion, BadSpec, Clash, SameUuid, Dangling, Unclear, BadLog}
use Rattle.pkg_world.specs.declared.cause.LimitKind.{LimitKind}
use Rattle.pkg_world.specs.declared.cause.LimitKind.TheVariants.{Packages, States, Bits, Cells, TreeDepth, TreeFiles}
use Rattle.selection_check.specs.declared.verdict.Verdict.{Verdict}
use Rattle.selection_check.specs.declared.verdict.Verdict.TheVariants.{Good, MissingRoot, NoOffer, MissingDep, Outside, PinBroken, Unneeded}
use Rattle.command_answers.specs.declared.status.Difference.{Difference}
use Rattle.command_answers.specs.declared.status.Difference.TheVariants.{Broken, Trees, Log}
use Rattle.command_answers.specs.declared.status.Status.{Status}
use Rattle.command_answers.specs.declared.status.Status.TheVariants.{Ok as StatusOk, BadWords, MissingFile, BadFile, NeedsFetch, NoIdentity, NoSource, Unsatisfiable, GaveUp, ReadFault, WriteFault, Blocked, UnknownName, UnknownPackage, AmbiguousName, Limit, Differs, NotInProject, NotInManifest, NotPinned, NotAProject, NameTaken, WrongJulia, NotBuilt, Memory, SinkFault}

-- an identifier in lower case with hyphens, nil as `-`
abbrev pub uuid_text : Option (List ℕ) → List ℕ
uuid_text None = codes "-"
uuid_text (Some uuid) = hyphenated_text lower uuid

-- two values that are carried, with a space between them
abbrev pub two : List ℕ → List ℕ → List ℕ
two first second = first ++ (codes " " ++ second)

-- a cause as it is printed: its name, then what it carries
abbrev pub cause_text : Cause → List ℕ
cause_text BadToml = codes "BadToml"
cause_text Deep = codes "Deep"
cause_text BadDate = codes "BadDate"
cause_text (BadShape keys) = two (codes "BadShape") keys
cause_text (BadVersion keys place) = two (codes "BadVersion") (two keys (decimal place))
cause_text (BadSpec keys place) = two (codes "BadSpec") (two keys (decimal place))
cause_text (Clash name version first second) = two (codes "Clash") (two name (two version (two first second)))
cause_text (SameUuid uuid) = two (codes "SameUuid") (hyphenated_text lower uuid)
cause_text (Dangling stanza listed) = two (codes "Dangling") (two stanza listed)
cause_text (Unclear stanza listed) = two (codes "Unclear") (two stanza listed)
cause_text (BadLog line) = two (codes "BadLog") (decimal line)

abbrev pub limit_text : LimitKind → List ℕ
limit_text Packages = codes "Packages"
limit_text States = codes "States"
limit_text Bits = codes "Bits"
limit_text Cells = codes "Cells"
limit_text TreeDepth = codes "TreeDepth"
limit_text TreeFiles = codes "TreeFiles"

-- a verdict as its name and the identifiers that it names, the project as `-`
abbrev pub verdict_text : Verdict → List ℕ
verdict_text Good = codes "Good"
verdict_text (MissingRoot uuid) = two (codes "MissingRoot") (hyphenated_text lower uuid)
verdict_text (NoOffer uuid) = two (codes "NoOffer") (hyphenated_text lower uuid)
verdict_text (MissingDep uuid missing) = two (codes "MissingDep") (two (hyphenated_text lower uuid) (hyphenated_text lower missing))
verdict_text (Outside uuid outside) = two (codes "Outside") (two (uuid_text uuid) (hyphenated_text lower outside))
verdict_text (PinBroken uuid) = two (codes "PinBroken") (hyphenated_text lower uuid)
verdict_text (Unneeded uuid) = two (codes "Unneeded") (hyphenated_text lower uuid)

abbrev pub difference_text : Difference → List ℕ
difference_text (Broken verdict) = verdict_text verdict
difference_text (Trees wanted found) = two (tree_text wanted) (tree_text found)
difference_text (Log path) = path_text path

-- `error`, the code and the name of a status, and what it carries
abbrev pub error_line : List ℕ → List ℕ → List ℕ
error_line head carried = codes "error " ++ (head ++ (codes " " ++ (carried ++ 10 ∷ [])))

-- the line of a status that is not Ok; a log is told by how many nodes it has
abbrev pub status_line : Status → List ℕ
status_line StatusOk = []
status_line (BadWords word) = error_line (codes "2 BadWords") word
status_line (MissingFile path) = error_line (codes "3 MissingFile") (path_text path)
status_line (BadFile path cause) = error_line (codes "3 BadFile") (two (path_text path) (cause_text cause))
status_line (NeedsFetch name) = error_line (codes "3 NeedsFetch") name
status_line (NoIdentity name) = error_line (codes "4 NoIdentity") name
status_line (NoSource uuid) = error_line (codes "5 NoSource") (uuid_text uuid)
status_line (Unsatisfiable log) = error_line (codes "6 Unsatisfiable") (decimal (length log.items))
status_line (GaveUp log) = error_line (codes "7 GaveUp") (decimal (length log.items))
status_line (ReadFault path) = error_line (codes "8 ReadFault") (path_text path)
status_line (WriteFault path) = error_line (codes "9 WriteFault") (path_text path)
status_line (Blocked path) = error_line (codes "9 Blocked") (path_text path)
status_line (UnknownName name) = error_line (codes "10 UnknownName") name
status_line (UnknownPackage uuid) = error_line (codes "10 UnknownPackage") (hyphenated_text lower uuid)
status_line (AmbiguousName first second) = error_line (codes "11 AmbiguousName") (two (hyphenated_text lower first) (hyphenated_text lower second))
status_line (Limit kind count) = error_line (codes "12 Limit") (two (limit_text kind) (decimal count))
status_line (Differs difference) = error_line (codes "13 Differs") (difference_text difference)
status_line (NotInProject name) = error_line (codes "14 NotInProject") name
status_line (NotInManifest name) = error_line (codes "14 NotInManifest") name
status_line (NotPinned name) = error_line (codes "14 NotPinned") name
status_line (NotAProject path) = error_line (codes "14 NotAProject") (path_text path)
status_line (NameTaken uuid) = error_line (codes "14 NameTaken") (uuid_text uuid)
status_line (WrongJulia text) = error_line (codes "14 WrongJulia") text
status_line (NotBuilt word) = error_line (codes "17 NotBuilt") word
status_line Memory = codes "error 15 Memory" ++ 10 ∷ []
status_line SinkFault = codes "error 16 SinkFault" ++ 10 ∷ []

-- the exit code of a status
abbrev pub code_of : Status → ℕ
code_of StatusOk = 0
code_of (BadWords word) = 2
code_of (MissingFile path) = 3
code_of (BadFile path cause) = 3
code_of (NeedsFetch name) = 3
code_of (NoIdentity name) = 4
code_of (NoSource uuid) = 5
code_of (Unsatisfiable log) = 6
code_of (GaveUp log) = 7
code_of (ReadFault path) = 8
code_of (WriteFault path) = 9
code_of (Blocked path) = 9
code_of (UnknownName name) = 10
code_of (UnknownPackage uuid) = 10
code_of (AmbiguousName first second) = 11
code_of (Limit kind count) = 12
code_of (Differs difference) = 13
code_of (NotInProject name) = 14
code_of (NotInManifest name) = 14
code_of (NotPinned name) = 14
code_of (NotAProject path) = 14
code_of (NameTaken uuid) = 14
code_of (WrongJulia text) = 14
code_of Memory = 15
code_of SinkFault = 16
code_of (NotBuilt word) = 17
