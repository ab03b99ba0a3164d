-- What each answer of the crate's calls tells of the bytes and tables.
use Rattle.std.specs.Prelude.{◌≡◌, ℕ, List, String, Some, IsSome, Result, Ok, Err, MatchResult}
use Rattle.std.specs.BTreeMap.{BTreeMap}
use Rattle.std.specs.declared.alloc.Global.{Global}
use Rattle.toml.specs.View.{table_view}
use Rattle.toml.specs.declared.value.Value.{Value}
use Rattle.toml_view.specs.Reading.{under}
use Rattle.toml_view.specs.Document.{viewed, bad_toml, deep}
use Rattle.toml_view.specs.declared.document.ViewFault.{ViewFault}
use Rattle.toml_view.specs.declared.keys.KeyFault.{KeyFault}
use Rattle.toml_view.specs.declared.keys.KeyFault.TheVariants.{BadShape, Memory as KeyMemory}
use Rattle.toml_view.specs.declared.refusal.Flaw.TheVariants.{Shape}
use Rattle.toml_view.specs.declared.refusal.Refusal.{Refusal}
use Rattle.toml_view.specs.declared.refusal.Stop.{Stop}
use Rattle.toml_view.specs.declared.refusal.Stop.TheVariants.{Refused, Memory as StopMemory}
use Rattle.toml_view.specs.declared.document.ViewFault.TheVariants.{BadToml, Deep, Memory}

-- what a refusal to view bytes means; want of memory tells nothing
abbrev pub RefusesView : ViewFault → List ℕ → Type 0
RefusesView BadToml bytes = viewed bytes ≡ Err bad_toml
RefusesView Deep bytes = viewed bytes ≡ Err deep
RefusesView Memory bytes = Unit {0}

-- the table of the bytes, or the refusal where there is none
abbrev pub GivesView : Result (BTreeMap (String Global) Value) ViewFault → List ℕ → Type 0
GivesView answer bytes = MatchResult answer (λ table. viewed bytes ≡ Ok (table_view table)) (λ fault. RefusesView fault bytes)

-- what a stopped reading tells
abbrev pub Refuses : {T : Type 0} → Stop → Result T Refusal → Type 0
Refuses (Refused refusal) reading = reading ≡ Err refusal
Refuses StopMemory reading = Unit {0}

-- a refused key: its path, the keys joined by dots
abbrev pub shape_at : List ℕ → Refusal
shape_at path = record { path = Some path; flaw = Shape }

abbrev pub RefusesKey : {T : Type 0} → KeyFault → Result T Refusal → Type 0
RefusesKey (BadShape path) reading = reading ≡ Err (shape_at path)
RefusesKey KeyMemory reading = Unit {0}

abbrev pub IsShapeFault : List ℕ → KeyFault → Type 0
IsShapeFault key (BadShape path) = path ≡ key
IsShapeFault key KeyMemory = Unit {0}

-- a refusal of a table's value has a path
abbrev pub HasPath : Stop → Type 0
HasPath (Refused refusal) = IsSome refusal.path
HasPath StopMemory = Unit {0}

-- what is refused has another kind, or is absent
abbrev pub HasShape : Stop → Type 0
HasShape (Refused refusal) = refusal.flaw ≡ Shape
HasShape StopMemory = Unit {0}

-- a stop as it is seen from the table above; the new path may want memory
abbrev pub IsRaised : List ℕ → Stop → Stop → Type 0
IsRaised key (Refused refusal) (Refused above) = above ≡ under key refusal
IsRaised key StopMemory (Refused above) = ⊥
IsRaised key stop StopMemory = Unit {0}

-- the fault of a getter, from the stop of the reading
abbrev pub IsKeyFault : KeyFault → Stop → Type 0
IsKeyFault (BadShape path) stop = stop ≡ Refused (shape_at path)
IsKeyFault KeyMemory stop = stop ≡ StopMemory
