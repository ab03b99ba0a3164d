use Rattle.pkg_world.proofs.Each.{none-ok, none-err}
use Rattle.registry_tables.specs.Answers.{Refuses}
use Rattle.fixed_packages.specs.FixedPackages.{packages_read}
use Rattle.fixed_packages.proofs.fixed.read_packages.Goals as goal

pub returns-in-Ok-clause-told : goal.returns-in-Ok-clause-told
returns-in-Ok-clause-told g c = none-ok _ (λ all. packages_read all c.args.packages.entries) _ _ c.new-found.ensures.items c.in-Ok.ensures.told

pub returns-in-Err-clause-told : goal.returns-in-Err-clause-told
returns-in-Err-clause-told g c = none-err (λ reading. Refuses reading c.in-Err.fault) _ (λ all. packages_read all c.args.packages.entries) _ c.new-found.ensures.items c.in-Err.ensures.told
