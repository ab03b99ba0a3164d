use Rattle.pkg_world.proofs.Each.{none-ok}
use Rattle.project_places.proofs.Each.{none-err}
use Rattle.standard_libraries.specs.Libraries.{folders_read}
use Rattle.standard_libraries.proofs.library_folder.read_folders.Goals as goal

pub returns-in-Ok-clause-told : goal.returns-in-Ok-clause-told
returns-in-Ok-clause-told g c = none-ok _ (λ all. folders_read all c.args.julia.now c.args.folders.now) _ _ c.new-found.ensures.items c.in-Ok.ensures.told

pub returns-in-Err-clause-told : goal.returns-in-Err-clause-told
returns-in-Err-clause-told g c = none-err _ (λ all. folders_read all c.args.julia.now c.args.folders.now) _ c.in-Err.fault c.new-found.ensures.items c.in-Err.ensures.told
