use Rattle.std.proofs.Common.{◌∙◌, arith}
use Rattle.pkg_world.proofs.Each.{each-next, each-stops}
use Rattle.registry_tables.specs.Answers.{Refuses}
use Rattle.fixed_packages.specs.FixedPackages.{package_read}
use Rattle.fixed_packages.proofs.Stopped.{stops}
use Rattle.fixed_packages.proofs.fixed.add_packages.Goals as goal

pub packages-preserved : goal.packages-preserved
packages-preserved g c =
    let (same, later, other, comes) = c.packages.invariant in (
      c.add_package.ensures.files ∙ same,
      omega (arith, later, c.add_package.ensures.later),
      c.add_package.ensures.other ∙ other,
      each-next _ package_read c.in-Some.entry c.args.packages.entries _ _ _ _ _ c.in-Some.ensures.removal comes (rw same at c.in-Ok.ensures.told),
    )

pub returns-in-Err-clause-told : goal.returns-in-Err-clause-told
returns-in-Err-clause-told g c =
    let (same, later, other, comes) = c.packages.invariant in
    each-stops (λ reading. Refuses reading c.in-Err.fault) (stops c.in-Err.fault) _ package_read c.in-Some.entry c.args.packages.entries _ _ _ _ c.in-Some.ensures.removal comes (rw same at c.in-Err.ensures.told)
