use Rattle.book_graph.proofs.Solved.{solution_feasible}
use Rattle.book_graph.proofs.laws.solution_is_feasible.Goals as goal

pub returns : goal.returns
returns _ book w g chosen s is_book covers stands solves selects = solution_feasible book w g is_book stands chosen solves s selects covers
