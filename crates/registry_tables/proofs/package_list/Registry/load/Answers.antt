use Rattle.toml.specs.View.{table_view}
use Rattle.registry_tables.proofs.Packages.{registry-loads}
use Rattle.registry_tables.proofs.package_list.Registry.load.Goals as goal

pub returns-in-Ok-clause-told : goal.returns-in-Ok-clause-told
returns-in-Ok-clause-told g c =
    registry-loads _ c.args.folder.now c.in_ok-file.file (table_view c.in-Ok.table) c.of_table.result c.in_ok-file.ensures c.in-Ok.ensures.told c.of_table.ensures.told
