use Rattle.book_graph.proofs.Sums.{sums_are_one}
use Rattle.book_graph.proofs.laws.sums_are_one.Goals as goal

pub returns : goal.returns
returns c = sums_are_one
