-- A project file's fault is told as that of a registry's file.
use Rattle.std.proofs.Common.{Ok, refl}
use Rattle.pkg_world.specs.Each.{then_ok}
use Rattle.fixed_packages.specs.FixedPackages.{read_as}
use Rattle.fixed_packages.proofs.AsRegistry.{refused-as, rose-as}
use Rattle.standard_libraries.specs.Libraries.{libraries_in}
use Rattle.offer_catalog.proofs.loading.with_libraries.Goals as goal

pub returns-in-Err-clause-told : goal.returns-in-Err-clause-told
returns-in-Err-clause-told g c =
    refused-as c.in-Err.fault c.as_registry_fault.result c.as_registry_fault.ensures _ (λ all. libraries_in all c.args.place.now.julia c.args.place.now.stdlib)
    (λ all r. then_ok (read_as r) (λ libraries. Ok (record { registries = c.args.registries.items; libraries = libraries }))) (λ all path cause. refl) c.in-Err.ensures.told

pub returns-in-Err-clause-fault : goal.returns-in-Err-clause-fault
returns-in-Err-clause-fault g c = rose-as c.in-Err.fault c.as_registry_fault.result _ _ c.as_registry_fault.ensures c.in-Err.ensures.fault
