-- What stops a reading of files stops those that begin with it.
use Rattle.std.proofs.Common.{Ok, Err}
use Rattle.pkg_world.proofs.Each.{Stops}
use Rattle.registry_tables.specs.Answers.{Refuses}
use Rattle.registry_tables.specs.declared.fault.RegFault.{RegFault}
use Rattle.registry_tables.specs.declared.fault.RegFault.TheVariants.{ReadFault, MissingFile, BadFile, Memory}

pub stops : {T : Type 0} (fault : RegFault) → Stops {T = T} (λ reading. Refuses reading fault)
stops (ReadFault path) one after old h = tt
stops (MissingFile path) (Ok first) after old h = cc
stops (MissingFile path) (Err unusable) after old h = h
stops (BadFile path cause) (Ok first) after old h = cc
stops (BadFile path cause) (Err unusable) after old h = h
stops Memory one after old h = tt
