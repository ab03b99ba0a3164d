-- the versions so far
use Rattle.std.proofs.Common.{◌≡◌, map}
use Rattle.std.specs.List.{range_with_len}
use Rattle.toml.specs.View.{table_view}
use Rattle.world_maker.specs.Tables.{members_of, version_pair}
use Rattle.world_maker.proofs.tables.versions_table.Given as goal

abbrev pub invariant-versions : goal.invariant-versions
invariant-versions l = table_view l.table ≡ members_of (map (version_pair l.«package») (range_with_len 0 l.minor))
