-- Why a project's file can't be used, told as for a registry's file.
use Rattle.registry_tables.specs.declared.fault.RegFault.{RegFault}
use Rattle.registry_tables.specs.declared.fault.RegFault.TheVariants.{ReadFault, BadFile, Memory}
use Rattle.project_places.specs.declared.fault.EnvFault.{EnvFault}
use Rattle.project_places.specs.declared.fault.EnvFault.TheVariants as env

abbrev pub fault_as : EnvFault → RegFault
fault_as (env.ReadFault path) = ReadFault path
fault_as (env.BadFile path cause) = BadFile path cause
fault_as env.Memory = Memory
