-- What is refused here has another kind.
use Rattle.toml.specs.View.{table_view}
use Rattle.toml_view.specs.Reading.{table_at, uuid_of}
use Rattle.toml_view.proofs.Shapes.{stop_shape, uuids_at_shapes}
use Rattle.toml_view.proofs.keys.uuid_table.Goals as goal

pub key_fault-requires-clause-shape : goal.key_fault-requires-clause-shape
key_fault-requires-clause-shape c =
    stop_shape c.in-Err.stop (table_at uuid_of c.args.key.now (table_view c.args.table.now)) (uuids_at_shapes c.args.key.now (table_view c.args.table.now)) c.in-Err.ensures.err
