-- the dependencies so far
use Rattle.std.proofs.Common.{◌≡◌, map}
use Rattle.std.specs.List.{range_with_len}
use Rattle.toml.specs.View.{table_view}
use Rattle.world_maker.specs.Tables.{members_of, compat_pair}
use Rattle.world_maker.proofs.tables.section_table.Given as goal

abbrev pub invariant-places : goal.invariant-places
invariant-places l = table_view l.table ≡ members_of (map (compat_pair l.needs l.spans l.minor) (range_with_len 0 l.place))
