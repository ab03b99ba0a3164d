use Rattle.graph_pruning.proofs.ExchangeLemmas.{unkept_absent}
use Rattle.graph_pruning.proofs.laws.unkept_can_be_absent.Goals as goal

pub returns : goal.returns
returns c = λ g pr graph plain k xs s. unkept_absent c.solution_is_closed.ensures g pr k xs s graph plain
