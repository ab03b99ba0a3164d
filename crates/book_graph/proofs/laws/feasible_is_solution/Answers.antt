use Rattle.book_graph.proofs.Reversed.{feasible_is_solution}
use Rattle.book_graph.proofs.laws.feasible_is_solution.Goals as goal

pub returns : goal.returns
returns c = feasible_is_solution
