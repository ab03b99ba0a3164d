-- What a fault tells of one reading it tells of a reading that is refused with it.
use Rattle.std.proofs.Common.{◌≡◌, List, ◌∷◌, Result, Ok, Err, ap, ◌∙◌}
use Rattle.toml_view.specs.Causes.{then_read}
use Rattle.pkg_world.specs.declared.cause.Cause.{Cause}
use Rattle.pkg_world.specs.declared.cause.Cause.TheVariants.{BadToml, Deep, BadShape, BadVersion, SameUuid, Dangling, Unclear}
use Rattle.manifest_file.specs.Saying.{all_read}
use Rattle.manifest_file.specs.Steps.{Refuses, onto}
use Rattle.manifest_file.specs.declared.fault.ManifestFault.{ManifestFault}
use Rattle.manifest_file.specs.declared.fault.ManifestFault.TheVariants.{BadToml as TomlFault, Deep as DeepFault, BadShape as ShapeFault, BadVersion as VersionFault, SameUuid as SameFault, Dangling as DanglingFault, Unclear as UnclearFault, Memory}

pub refuses_along : {S T : Type 0} (a : Result S Cause) (b : Result T Cause) (fault : ManifestFault) → ((cause : Cause) → a ≡ Err cause → b ≡ Err cause) → Refuses a fault → Refuses b fault
refuses_along a b TomlFault go h = go BadToml h
refuses_along a b DeepFault go h = go Deep h
refuses_along a b (ShapeFault path) go h = go (BadShape path) h
refuses_along a b (VersionFault path place) go h = go (BadVersion path place) h
refuses_along a b (SameFault id) go h = go (SameUuid id) h
refuses_along a b (DanglingFault from name) go h = go (Dangling from name) h
refuses_along a b (UnclearFault from name) go h = go (Unclear from name) h
refuses_along a b Memory go h = tt

-- the first of the rest is refused
pub refuses_first : {S T : Type 0} (read : S → Result T Cause) (done : List T) (x : S) (xs : List S) (whole : Result (List T) Cause) (fault : ManifestFault)
    → whole ≡ onto done (all_read read (x ∷ xs)) → Refuses (read x) fault → Refuses whole fault
refuses_first read done x xs whole fault same h =
    refuses_along (read x) whole fault (λ cause e. same ∙ ap (λ r. onto done (then_read r (λ v. then_read (all_read read xs) (λ vs. Ok (v ∷ vs))))) e) h

-- a reading that goes on is refused as its first part is
pub refuses_then : {S T : Type 0} (a : Result S Cause) (next : S → Result T Cause) (fault : ManifestFault) → Refuses a fault → Refuses (then_read a next) fault
refuses_then a next fault h = refuses_along a (then_read a next) fault (λ cause e. ap (λ r. then_read r next) e) h
