use Rattle.project_changes.proofs.Refused.{refused-then}
use Rattle.project_changes.proofs.pinning.pin.Goals as goal

pub returns-in-Err : goal.returns-in-Err
returns-in-Err c = refused-then _ _ c.stanza_fault.result (c.stanza_fault.ensures _ c.in-Err.ensures.told)
