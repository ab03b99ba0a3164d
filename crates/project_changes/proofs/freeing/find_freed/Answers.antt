use Rattle.project_changes.proofs.Refused.{refused-then}
use Rattle.project_changes.proofs.freeing.find_freed.Goals as goal

pub returns-in-Err-clause-told : goal.returns-in-Err-clause-told
returns-in-Err-clause-told c = refused-then _ _ c.stanza_fault.result (c.stanza_fault.ensures _ c.in-Err.ensures.told)
