use Rattle.pkg_world.proofs.Each.{none-ok}
use Rattle.project_places.proofs.Each.{none-err}
use Rattle.import_lookup.specs.Loading.{all_loaded}
use Rattle.import_lookup.proofs.loaded.load_each.Goals as goal

pub returns-in-Ok-clause-told : goal.returns-in-Ok-clause-told
returns-in-Ok-clause-told g c = none-ok _ (λ all. all_loaded all c.args.names.now.items c.args.envs.items) _ _ c.make-list.ensures.items c.in-Ok.ensures.told

pub returns-in-Err-clause-told : goal.returns-in-Err-clause-told
returns-in-Err-clause-told g c = none-err _ (λ all. all_loaded all c.args.names.now.items c.args.envs.items) _ c.in-Err.fault c.make-list.ensures.items c.in-Err.ensures.told
