use Rattle.env_maps.specs.Library.{library_in}
use Rattle.pkg_world.proofs.Each.{none-ok}
use Rattle.project_places.proofs.Each.{none-err}
use Rattle.env_maps.proofs.library.Library.load.Goals as goal

pub returns-in-Ok-clause-told : goal.returns-in-Ok-clause-told
returns-in-Ok-clause-told g c = none-ok _ (λ all. library_in all c.args.stdlib.now c.args.names.now.items) _ _ c.make-found.ensures.items (rw c.items.ensures at c.in-Ok.ensures.told)

pub returns-in-Err-clause-told : goal.returns-in-Err-clause-told
returns-in-Err-clause-told g c = none-err _ (λ all. library_in all c.args.stdlib.now c.args.names.now.items) _ c.in-Err.fault c.make-found.ensures.items (rw c.items.ensures at c.in-Err.ensures.told)
