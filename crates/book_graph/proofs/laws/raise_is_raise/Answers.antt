use Rattle.book_graph.proofs.Raised.{raise_is_raise}
use Rattle.book_graph.proofs.laws.raise_is_raise.Goals as goal

pub returns : goal.returns
returns c = raise_is_raise
