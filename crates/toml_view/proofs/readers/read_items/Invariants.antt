use Rattle.std.proofs.Common.{◌≡◌, drop}
use Rattle.toml.specs.View.{items_view}
use Rattle.toml_view.specs.Reading.{items_read}
use Rattle.toml_view.proofs.Walks.{onto}
use Rattle.toml_view.proofs.readers.read_items.Given as goal

abbrev pub invariant-loop-item : goal.invariant-loop-item
invariant-loop-item g l =
    items_read (g.R.Reader.gives l.reader) (items_view l.item-items) ≡ onto l.list.items (items_read (g.R.Reader.gives l.reader) (items_view (drop l.item-index l.item-items)))
