-- Readings of files one after the other: a refusal on the way, and one behind nothing.
use Rattle.std.proofs.Common.{◌≡◌, List, [], ◌∷◌, Option, IfSome, Ok, Err}
use Rattle.pkg_world.specs.Each.{joined_ok, read_each, onto}
use Rattle.pkg_world.proofs.Each as world
use Rattle.project_places.specs.Files.{Read, Refuses}
use Rattle.project_places.specs.declared.fault.EnvFault.{EnvFault}
use Rattle.project_places.specs.declared.fault.EnvFault.TheVariants.{ReadFault, BadFile, Memory}

-- a file that is refused refuses what begins with it
stops : {T : Type 0} (fault : EnvFault) (one after : Read (List T)) (old : List T) → Refuses (onto old one) fault → Refuses (onto old (joined_ok one after)) fault
stops (ReadFault path) one after old h = tt
stops (BadFile path cause) (Ok first) after old h = cc
stops (BadFile path cause) (Err refused) after old h = h
stops Memory one after old h = tt

-- a refusal on the way is that of the whole
pub each-stops : {F S T : Type 0} (files : Option F) (read : F → S → Read (List T)) (x : S) (xs rest more : List S) (first old : List T) (fault : EnvFault) → rest ≡ x ∷ more
    → IfSome files (λ all. onto first (read_each (read all) xs) ≡ onto old (read_each (read all) rest))
    → IfSome files (λ all. Refuses (onto old (read all x)) fault)
    → IfSome files (λ all. Refuses (onto first (read_each (read all) xs)) fault)
each-stops files read x xs rest more first old fault there before refused =
    world.each-stops (λ reading. Refuses reading fault) (stops fault) files read x xs rest more first old there before refused

-- behind nothing
pub none-err : {F T : Type 0} (files : Option F) (reading : F → Read (List T)) (old : List T) (fault : EnvFault) → old ≡ []
    → IfSome files (λ all. Refuses (onto old (reading all)) fault) → IfSome files (λ all. Refuses (reading all) fault)
none-err files reading old fault none h = world.none-err (λ reading. Refuses reading fault) files reading old none h
