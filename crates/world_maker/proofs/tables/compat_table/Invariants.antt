-- the versions so far
use Rattle.std.proofs.Common.{◌≡◌, map}
use Rattle.std.specs.List.{range_with_len}
use Rattle.toml.specs.View.{table_view}
use Rattle.world_maker.specs.Tables.{members_of, section_pair}
use Rattle.world_maker.proofs.tables.compat_table.Given as goal

abbrev pub invariant-versions : goal.invariant-versions
invariant-versions l = table_view l.table ≡ members_of (map (section_pair l.needs l.spans) (range_with_len 0 l.minor))
