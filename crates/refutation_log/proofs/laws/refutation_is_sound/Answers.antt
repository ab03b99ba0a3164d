use Rattle.std.proofs.Common.{[]}
use Rattle.refutation_log.proofs.Sound.{refuted, followed_at_first}
use Rattle.refutation_log.proofs.laws.refutation_is_sound.Goals as goal

pub returns : goal.returns
returns c = λ g nodes graph plain r xs s.
    let y = c.unkept_can_be_absent.ensures g r.pruning graph plain r.prunes xs s in
    refuted c.solution_is_closed.ensures c.equal_states_exchange.ensures g r.pruning r.prunes y.0 y.1.solves y.1.absent [] (followed_at_first y.0) r.tree r.refutes
