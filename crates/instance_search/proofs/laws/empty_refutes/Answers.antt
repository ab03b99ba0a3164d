use Rattle.instance_search.proofs.AnswerLemmas.{empty_refuted}
use Rattle.instance_search.proofs.laws.empty_refutes.Goals as goal

pub returns : goal.returns
returns c = empty_refuted c.end_refutes.ensures c.reduced_is_whole.ensures c.renumbered_refutes.ensures c.refutation_is_sound.ensures c.empty_is_everywhere.ensures
