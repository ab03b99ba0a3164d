use Rattle.registered_offers.specs.ListedTables.{registries_in}
use Rattle.pkg_world.proofs.Each.{none-ok, none-err}
use Rattle.registry_tables.specs.Answers.{Refuses}
use Rattle.registered_offers.proofs.loaded_registry.registries_in.Goals as goal

pub returns-in-Ok-clause-told : goal.returns-in-Ok-clause-told
returns-in-Ok-clause-told g c = none-ok _ (λ all. registries_in all c.args.folders.now) _ _ c.make-list.ensures.items c.in-Ok.ensures.told

pub returns-in-Err-clause-told : goal.returns-in-Err-clause-told
returns-in-Err-clause-told g c = none-err (λ reading. Refuses reading c.in-Err.fault) _ (λ all. registries_in all c.args.folders.now) _ c.make-list.ensures.items c.in-Err.ensures.told
