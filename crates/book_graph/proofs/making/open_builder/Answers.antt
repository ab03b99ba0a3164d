use Rattle.std.proofs.Common.{◌∙◌}
use Rattle.book_graph.proofs.Counts.{some_states}
use Rattle.book_graph.proofs.Made.{sized_from}
use Rattle.book_graph.proofs.making.open_builder.Goals as goal

pub make-requires : goal.make-requires
make-requires c = some_states c.args.book.now c.as_slice.result.now (c.as_slice.ensures.value ∙ c.in_ok-sizes.ensures)

pub returns-in-Ok-clause-sized : goal.returns-in-Ok-clause-sized
returns-in-Ok-clause-sized c = sized_from c.args.book.now c.in-Ok.builder (c.in-Ok.ensures.sizes ∙ c.as_slice.ensures.value ∙ c.in_ok-sizes.ensures) c.requires.small
