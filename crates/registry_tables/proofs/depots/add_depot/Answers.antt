use Rattle.registry_tables.proofs.Adding.{depot-names}
use Rattle.registry_tables.proofs.depots.add_depot.Goals as goal

pub returns-in-Ok-Some-clause-told : goal.returns-in-Ok-Some-clause-told
returns-in-Ok-Some-clause-told g c =
    depot-names _ c.args.depot.now c.in_ok-folder.folder c.in-Ok-Some.names.items c.args.found.now c.add_names.new.found c.add_names.result c.in_ok-folder.ensures
    (rw c.in-Ok-Some.field-0-is at c.in-Ok-Some.ensures.found) (rw (← c.items.ensures, ← c.names_in.ensures.files) c.add_names.ensures.told)
