use Rattle.graph_pruning.proofs.ExchangeLemmas.{exchanged}
use Rattle.graph_pruning.proofs.laws.equal_states_exchange.Goals as goal

pub returns : goal.returns
returns c = λ g pr k xs s a p i known kept e. exchanged c.solution_is_closed.ensures g pr k xs s a p i known kept e
