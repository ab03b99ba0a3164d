use Rattle.project_changes.proofs.Refused.{refused-then}
use Rattle.project_changes.proofs.adding.add_word.Goals as goal

pub returns-in-Err-clause-told : goal.returns-in-Err-clause-told
returns-in-Err-clause-told c = refused-then _ _ c.name_fault.result (c.name_fault.ensures _ c.in-Err.ensures)
