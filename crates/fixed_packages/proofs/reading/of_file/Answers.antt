-- A project file's fault is told as that of a registry's file.
use Rattle.std.proofs.Common.{Ok, refl}
use Rattle.pkg_world.specs.Each.{then_ok}
use Rattle.pkg_world.specs.Tree.{holds}
use Rattle.project_places.specs.Files as places
use Rattle.fixed_packages.specs.FixedPackages.{read_as, or_missing}
use Rattle.fixed_packages.specs.Given.{of_project}
use Rattle.fixed_packages.proofs.AsRegistry.{refused-as, rose-as}
use Rattle.fixed_packages.proofs.reading.of_file.Goals as goal

pub returns-in-Err-clause-told : goal.returns-in-Err-clause-told
returns-in-Err-clause-told g c =
    refused-as c.in-Err.fault c.as_registry_fault.result c.as_registry_fault.ensures _ (λ all. places.at_file c.args.file (places.project_in (holds c.args.file all)))
    (λ all r. then_ok (then_ok (read_as r) (or_missing c.args.file)) (λ said. Ok (of_project c.args.name c.args.origin said))) (λ all path cause. refl) c.in-Err.ensures.told

pub returns-in-Err-clause-fault : goal.returns-in-Err-clause-fault
returns-in-Err-clause-fault g c = rose-as c.in-Err.fault c.as_registry_fault.result _ _ c.as_registry_fault.ensures c.in-Err.ensures.fault
