use Rattle.book_graph.proofs.Reversed.{none_is_feasible}
use Rattle.book_graph.proofs.laws.none_is_feasible.Goals as goal

pub returns : goal.returns
returns c = none_is_feasible
