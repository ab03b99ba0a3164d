-- the packages so far
use Rattle.std.proofs.Common.{◌≡◌, map}
use Rattle.std.specs.List.{range_with_len}
use Rattle.toml.specs.View.{table_view}
use Rattle.world_maker.specs.Tables.{members_of, listing_pair}
use Rattle.world_maker.proofs.tables.listing_table.Given as goal

abbrev pub invariant-packages : goal.invariant-packages
invariant-packages l = table_view l.table ≡ members_of (map listing_pair (range_with_len 0 l.«package»))
