use Rattle.book_graph.proofs.Raised.{finished_is_best}
use Rattle.book_graph.proofs.laws.finished_is_best.Goals as goal

pub returns : goal.returns
returns c = finished_is_best
