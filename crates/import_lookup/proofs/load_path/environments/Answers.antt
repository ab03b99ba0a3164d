use Rattle.pkg_world.specs.Each.{read_each}
use Rattle.pkg_world.proofs.Each.{none-ok}
use Rattle.project_places.proofs.Each.{none-err}
use Rattle.import_lookup.specs.LoadPath.{environment_of}
use Rattle.import_lookup.proofs.load_path.environments.Goals as goal

pub returns-in-Ok-clause-told : goal.returns-in-Ok-clause-told
returns-in-Ok-clause-told g c = none-ok _ (λ all. read_each (environment_of all c.args.place.now) c.args.texts.now) _ _ c.new-list.ensures.items c.in-Ok.ensures.told

pub returns-in-Err-clause-told : goal.returns-in-Err-clause-told
returns-in-Err-clause-told g c = none-err _ (λ all. read_each (environment_of all c.args.place.now) c.args.texts.now) _ c.in-Err.fault c.new-list.ensures.items c.in-Err.ensures.told
