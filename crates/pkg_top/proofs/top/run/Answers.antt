use Rattle.command_answers.proofs.Endings.{unprinted_refusal, unprinted_sink}
use Rattle.pkg_top.proofs.top.run.Goals as goal

pub refuse-requires : goal.refuse-requires
refuse-requires g c = unprinted_refusal c.in-Err.status c.in-Err.ensures.unprinted

pub returns-in-Err-clause-sink_fault : goal.returns-in-Err-clause-sink_fault
returns-in-Err-clause-sink_fault g c = rw c.refuse.ensures.status (unprinted_sink _ _ c.in-Err.status c.in-Err.ensures.unprinted)
