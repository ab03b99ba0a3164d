use Rattle.pkg_world.specs.Path.{path_text}
use Rattle.depot_hash.specs.Walks.{can_run}
use Rattle.depot_hash.proofs.Entering.{hashes_folder}
use Rattle.depot_hash.proofs.folders.folder_id.Goals as goal

pub returns-in-Ok-Some-clause-told : goal.returns-in-Ok-Some-clause-told
returns-in-Ok-Some-clause-told g c =
    hashes_folder (g.S.Store.files c.args.store.now) c.args.folder.now c.args.execs.now.items (can_run c.in_ok-execs.execs) c.in-Ok-Some.names.items c.hashed.result (λ p. c.in_ok-execs.ensures (path_text p))
    (rw c.in-Ok-Some.field-0-is at c.in-Ok-Some.ensures.found) (rw c.in-Ok-Some.field-0-is at c.in-Ok-Some.ensures.order)
    (rw (c.in-Ok-Some.ensures.files, c.items.ensures) at c.hashed.ensures.told)
