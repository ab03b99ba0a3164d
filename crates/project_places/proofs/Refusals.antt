-- The refusal of a file, by the cause that a fault names.
use Rattle.std.proofs.Common.{◌≡◌, ap, Result, Err, sym, ◌∙◌}
use Rattle.pkg_world.specs.Path.{Path}
use Rattle.pkg_world.specs.declared.cause.Cause.{Cause}
use Rattle.manifest_file.specs.Steps.{Refuses as FaultRefuses}
use Rattle.manifest_file.specs.declared.fault.ManifestFault.{ManifestFault}
use Rattle.manifest_file.specs.declared.fault.ManifestFault.TheVariants as faults
use Rattle.project_places.specs.declared.fault.EnvFault.{EnvFault}
use Rattle.project_places.specs.declared.fault.EnvFault.TheVariants.{ReadFault, BadFile, Memory}
use Rattle.project_places.specs.Files.{at_file, Refuses, RefusesFile, RefusesBy, manifest_cause}

by_cause : {T : Type 0} (file : Path) (reading : Result T Cause) (cause : Cause) (fault : EnvFault) → reading ≡ Err cause → RefusesFile file cause fault → Refuses (at_file file reading) fault
by_cause file reading cause (ReadFault path) e told = tt
by_cause file reading cause (BadFile path why) e told = ap (at_file file) e ∙ ap Err (λ i. (sym told.0 i, sym told.1 i))
by_cause file reading cause Memory e told = tt

of_memory : {T : Type 0} (file : Path) (reading : Result T Cause) (fault : EnvFault) → fault ≡ Memory → Refuses (at_file file reading) fault
of_memory file reading fault e = rw e tt

pub refused_by : {T : Type 0} (file : Path) (reading : Result T Cause) (why : ManifestFault) (fault : EnvFault) → FaultRefuses reading why → RefusesBy file (manifest_cause why) fault → Refuses (at_file file reading) fault
refused_by file reading faults.BadToml fault e told = by_cause file reading _ fault e told
refused_by file reading faults.Deep fault e told = by_cause file reading _ fault e told
refused_by file reading (faults.BadShape keys) fault e told = by_cause file reading _ fault e told
refused_by file reading (faults.BadVersion keys place) fault e told = by_cause file reading _ fault e told
refused_by file reading (faults.SameUuid id) fault e told = by_cause file reading _ fault e told
refused_by file reading (faults.Dangling from name) fault e told = by_cause file reading _ fault e told
refused_by file reading (faults.Unclear from name) fault e told = by_cause file reading _ fault e told
refused_by file reading faults.Memory fault e told = of_memory file reading fault told
