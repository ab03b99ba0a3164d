use Rattle.book_graph.proofs.Reached.{need_is_reach}
use Rattle.book_graph.proofs.laws.need_is_reach.Goals as goal

pub returns : goal.returns
returns c = need_is_reach
