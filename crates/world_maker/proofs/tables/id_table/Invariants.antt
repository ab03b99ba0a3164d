-- the packages so far
use Rattle.std.proofs.Common.{◌≡◌, map, take}
use Rattle.toml.specs.View.{table_view}
use Rattle.world_maker.specs.Tables.{members_of, id_pair}
use Rattle.world_maker.proofs.tables.id_table.Given as goal

abbrev pub invariant-packages : goal.invariant-packages
invariant-packages l = table_view l.table ≡ members_of (map id_pair (take l.package-index l.packages))
