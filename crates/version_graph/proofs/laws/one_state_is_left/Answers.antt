use Rattle.version_graph.proofs.RowLemmas.{only_one}
use Rattle.version_graph.proofs.laws.one_state_is_left.Goals as goal

pub returns : goal.returns
returns c = only_one
