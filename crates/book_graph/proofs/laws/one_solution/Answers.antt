use Rattle.book_graph.proofs.Reversed.{one_solution}
use Rattle.book_graph.proofs.laws.one_solution.Goals as goal

pub returns : goal.returns
returns c = one_solution
