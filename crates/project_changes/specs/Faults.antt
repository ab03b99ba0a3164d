-- What the faults of a change tell.
use Rattle.std.specs.Prelude.{◌≡◌, Result, Err}
use Rattle.offer_terms.specs.Offered.{Text}
use Rattle.project_changes.specs.Refusals.{ChangeRefusal, taken, unknown, unknown_package, ambiguous, not_in_project, not_in_manifest, not_pinned}
use Rattle.project_changes.specs.declared.fault.ChangeFault.{ChangeFault}
use Rattle.project_changes.specs.declared.fault.ChangeFault.TheVariants.{NameTaken, UnknownName, UnknownPackage, AmbiguousName, NotInProject, NotInManifest, NotPinned, Memory}

-- why a change is refused; want of memory tells nothing
abbrev pub Refuses : {T : Type 0} → Result T ChangeRefusal → ChangeFault → Type 0
Refuses change (NameTaken had) = change ≡ Err (taken had)
Refuses change (UnknownName name) = change ≡ Err (unknown name)
Refuses change (UnknownPackage id) = change ≡ Err (unknown_package id)
Refuses change (AmbiguousName least next) = change ≡ Err (ambiguous least next)
Refuses change (NotInProject name) = change ≡ Err (not_in_project name)
Refuses change (NotInManifest name) = change ≡ Err (not_in_manifest name)
Refuses change (NotPinned name) = change ≡ Err (not_pinned name)
Refuses change Memory = Unit {0}

-- the name is no dependency
abbrev pub IsNotInProject : Text → ChangeFault → Type 0
IsNotInProject name (NameTaken had) = ⊥
IsNotInProject name (UnknownName text) = ⊥
IsNotInProject name (UnknownPackage id) = ⊥
IsNotInProject name (AmbiguousName least next) = ⊥
IsNotInProject name (NotInProject text) = text ≡ name
IsNotInProject name (NotInManifest text) = ⊥
IsNotInProject name (NotPinned text) = ⊥
IsNotInProject name Memory = Unit {0}

-- the name has nothing that can be freed
abbrev pub IsNotPinned : Text → ChangeFault → Type 0
IsNotPinned name (NameTaken had) = ⊥
IsNotPinned name (UnknownName text) = ⊥
IsNotPinned name (UnknownPackage id) = ⊥
IsNotPinned name (AmbiguousName least next) = ⊥
IsNotPinned name (NotInProject text) = ⊥
IsNotPinned name (NotInManifest text) = ⊥
IsNotPinned name (NotPinned text) = text ≡ name
IsNotPinned name Memory = Unit {0}
