use Rattle.std.proofs.Common.{[]}
use Rattle.refutation_log.proofs.Renumbering.{refutes_before}
use Rattle.refutation_log.proofs.laws.renumbered_refutes.Goals as goal

pub returns : goal.returns
returns c = λ g pr h b r own u t e. refutes_before c.pruning_keeps_closures.ensures g pr h b r own u [] tt t e
