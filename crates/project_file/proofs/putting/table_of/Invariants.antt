-- the items so far read back
use Rattle.std.proofs.Common.{◌≡◌, ◌≤◌, true, Ok, take}
use Rattle.toml.specs.Data.{members_depth, members_have_valid_dates}
use Rattle.toml.specs.View.{table_view}
use Rattle.toml_view.specs.Reading.{each}
use Rattle.project_file.proofs.putting.table_of.Given as goal

abbrev pub invariant-loop-name : goal.invariant-loop-name
invariant-loop-name g l = (each (g.T.Writes.gives) (table_view l.table) ≡ Ok (take l.name-index l.items)) × (members_depth (table_view l.table) ≤ 1) × (members_have_valid_dates (table_view l.table) ≡ true)
