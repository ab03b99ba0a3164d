-- A project file's fault, told as for a registry's file.
use Rattle.std.proofs.Common.{◌≡◌, ℕ, Option, Some, None, IfSome, Err, sym, ap, subst, ◌∙◌}
use Rattle.pkg_world.specs.Path.{Path}
use Rattle.pkg_world.specs.Tree.{Files}
use Rattle.pkg_world.specs.declared.cause.Cause.{Cause}
use Rattle.project_places.specs.Files as places
use Rattle.project_places.specs.Faults as faults
use Rattle.project_places.specs.declared.fault.EnvFault.{EnvFault}
use Rattle.project_places.specs.declared.fault.EnvFault.TheVariants.{ReadFault, BadFile, Memory}
use Rattle.registry_tables.specs.Answers.{Read, Refuses, ReadFaultRose, bad}
use Rattle.registry_tables.specs.declared.fault.RegFault.{RegFault}
use Rattle.fixed_packages.specs.Faults.{fault_as}

refused_all : {S T : Type 0} (fault : EnvFault) (reading : places.Read S) (next : places.Read S → Read T) → ((path : Path) (cause : Cause) → next (Err (path, cause)) ≡ Err (bad path cause))
    → places.Refuses reading fault → Refuses (next reading) (fault_as fault)
refused_all (ReadFault path) reading next ends h = tt
refused_all (BadFile path cause) reading next ends h = ap next h ∙ ends path cause
refused_all Memory reading next ends h = tt

-- what is refused stays refused
pub refused-as : {S T : Type 0} (fault : EnvFault) (answer : RegFault) → answer ≡ fault_as fault → (files : Option Files) (reading : Files → places.Read S) (next : Files → places.Read S → Read T)
    → ((all : Files) (path : Path) (cause : Cause) → next all (Err (path, cause)) ≡ Err (bad path cause))
    → IfSome files (λ all. places.Refuses (reading all) fault) → IfSome files (λ all. Refuses (next all (reading all)) answer)
refused-as fault answer same None reading next ends h = tt
refused-as fault answer same (Some all) reading next ends h = subst (Refuses (next all (reading all))) (sym same) (refused_all fault (reading all) (next all) (ends all) h)

rose_all : (fault : EnvFault) (before now : ℕ) → faults.ReadFaultRose before now fault → ReadFaultRose before now (fault_as fault)
rose_all (ReadFault path) before now h = h
rose_all (BadFile path cause) before now h = tt
rose_all Memory before now h = tt

-- a failed read is one, and the count rose
pub rose-as : (fault : EnvFault) (answer : RegFault) (before now : ℕ) → answer ≡ fault_as fault → faults.ReadFaultRose before now fault → ReadFaultRose before now answer
rose-as fault answer before now same h = subst (ReadFaultRose before now) (sym same) (rose_all fault before now h)
