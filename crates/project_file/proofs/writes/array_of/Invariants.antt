-- the names so far read back
use Rattle.std.proofs.Common.{◌≡◌, ◌≤◌, true, Ok, take}
use Rattle.toml.specs.Data.{items_depth, items_have_valid_dates}
use Rattle.toml.specs.View.{array_view}
use Rattle.toml_view.specs.Reading.{items_read, text_of}
use Rattle.project_file.proofs.writes.array_of.Given as goal

abbrev pub invariant-loop-name : goal.invariant-loop-name
invariant-loop-name l = (items_read text_of (array_view l.array) ≡ Ok (take l.name-index l.names)) × (items_depth (array_view l.array) ≤ 0) × (items_have_valid_dates (array_view l.array) ≡ true)
