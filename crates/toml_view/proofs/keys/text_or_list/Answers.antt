-- What is refused here has another kind.
use Rattle.toml.specs.View.{table_view}
use Rattle.toml_view.specs.Reading.{texts_at}
use Rattle.toml_view.proofs.Shapes.{stop_shape, texts_at_shapes}
use Rattle.toml_view.proofs.keys.text_or_list.Goals as goal

pub key_fault-requires-clause-shape : goal.key_fault-requires-clause-shape
key_fault-requires-clause-shape c =
    stop_shape c.in-Err.stop (texts_at c.args.key.now (table_view c.args.table.now)) (texts_at_shapes c.args.key.now (table_view c.args.table.now)) c.in-Err.ensures.err
