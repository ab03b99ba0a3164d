-- The edit of a command: the project after it, and what that demands of a selection, or the first refusal. The command's words
-- are tested first, then Julia's version, then whether something is to be fetched. (Own rules.)
--     edited command catalog place project manifest     the edit, or its refusal
use Rattle.std.specs.Prelude.{◌≡◌, ℕ, List, codes, Option, Some, None, Result, Ok, Err, if◌then◌else◌}
use Rattle.std.specs.Option.{option_and_then}
use Rattle.compat_spec.specs.Meaning.{specifier_holds}
use Rattle.pkg_world.specs.declared.place.Place.{Place}
use Rattle.package_tables.specs.Row.{value_of}
use Rattle.project_file.specs.Said as project
use Rattle.project_file.specs.Spelled.{Spelled}
use Rattle.manifest_file.specs.Saying as manifest
use Rattle.offer_terms.specs.Offered.{Text, Id}
use Rattle.offer_terms.specs.Demanded.{Wanted, wanted}
use Rattle.offer_catalog.specs.SaidCatalog.{SaidCatalog}
use Rattle.project_changes.specs.Refusals.{ChangeRefusal, taken, unknown, unknown_package, ambiguous, not_in_project, not_in_manifest, not_pinned}
use Rattle.pkg_commands.specs.Commands.{SaidCommand}
use Rattle.pkg_commands.specs.Changes.{Changed, changed}
use Rattle.pkg_commands.specs.Demand.{demand_of}
use Rattle.pkg_commands.specs.Fetching.{unfetched}
use Rattle.pkg_commands.specs.declared.edited.Edited as code
use Rattle.pkg_commands.specs.declared.fault.EditFault.{EditFault}
use Rattle.pkg_commands.specs.declared.fault.EditFault.TheVariants.{NameTaken, UnknownName, UnknownPackage, AmbiguousName, NotInProject, NotInManifest, NotPinned, WrongJulia, NeedsFetch, Memory}

pub record Edited : Type 0 where
  pub project : project.Said
  pub demand : Wanted

-- an edit without the room of its lists
abbrev pub seen : code.Edited → Edited
seen it = record { project = project.said it.project; demand = wanted it.demand }

-- why an edit is refused: what is wrong with the words, the text of the compat on Julia, or the name of what is to be fetched
pub data EditRefusal : Type 0 where
  refused : ChangeRefusal → EditRefusal
  wrong : Text → EditRefusal
  to_fetch : Text → EditRefusal

-- a specifier that doesn't hold Julia's version
abbrev pub unless_held : List ℕ → Spelled → Option Spelled
unless_held julia it = if specifier_holds it.parts julia then None else Some it

-- the project's compat on Julia, where it doesn't hold Julia's version
abbrev pub wrong_julia : List ℕ → List (Text × Spelled) → Option Spelled
wrong_julia julia compat = option_and_then (unless_held julia) (value_of (codes "julia") compat)

abbrev pub or_wrong : Option Spelled → Result Edited EditRefusal → Result Edited EditRefusal
or_wrong None later = later
or_wrong (Some it) later = Err (wrong it.text)

abbrev pub or_to_fetch : Option (Text × Id) → Edited → Result Edited EditRefusal
or_to_fetch None it = Ok it
or_to_fetch (Some dep) it = Err (to_fetch dep.0)

abbrev pub with_demand : SaidCatalog → Place → Changed → Edited
with_demand catalog place it = record { project = it.project; demand = demand_of catalog place it }

abbrev pub fetched : SaidCatalog → Place → Changed → Result Edited EditRefusal
fetched catalog place it = or_to_fetch (unfetched it.project.sources it.project.deps it.manifest.stanzas) (with_demand catalog place it)

abbrev pub tested : SaidCatalog → Place → Changed → Result Edited EditRefusal
tested catalog place it = or_wrong (wrong_julia place.julia it.project.compat) (fetched catalog place it)

abbrev pub or_refused : Result Changed ChangeRefusal → (Changed → Result Edited EditRefusal) → Result Edited EditRefusal
or_refused (Ok it) next = next it
or_refused (Err refusal) next = Err (refused refusal)

abbrev pub edited : SaidCommand → SaidCatalog → Place → project.Said → manifest.Said → Result Edited EditRefusal
edited command catalog place said found = or_refused (changed command catalog said found) (tested catalog place)

-- the refusal that a fault tells; want of memory tells nothing
abbrev pub Refuses : Result Edited EditRefusal → EditFault → Type 0
Refuses edit (NameTaken had) = edit ≡ Err (refused (taken had))
Refuses edit (UnknownName name) = edit ≡ Err (refused (unknown name))
Refuses edit (UnknownPackage id) = edit ≡ Err (refused (unknown_package id))
Refuses edit (AmbiguousName least next) = edit ≡ Err (refused (ambiguous least next))
Refuses edit (NotInProject name) = edit ≡ Err (refused (not_in_project name))
Refuses edit (NotInManifest name) = edit ≡ Err (refused (not_in_manifest name))
Refuses edit (NotPinned name) = edit ≡ Err (refused (not_pinned name))
Refuses edit (WrongJulia text) = edit ≡ Err (wrong text)
Refuses edit (NeedsFetch name) = edit ≡ Err (to_fetch name)
Refuses edit Memory = Unit {0}

abbrev pub IsWrong : Text → EditFault → Type 0
IsWrong text (WrongJulia found) = found ≡ text
IsWrong text Memory = Unit {0}
IsWrong text _ = ⊥

abbrev pub IsToFetch : Text → EditFault → Type 0
IsToFetch name (NeedsFetch found) = found ≡ name
IsToFetch name Memory = Unit {0}
IsToFetch name _ = ⊥
