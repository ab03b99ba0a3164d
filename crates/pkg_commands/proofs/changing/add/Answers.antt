use Rattle.project_changes.proofs.Refused.{refused-then}
use Rattle.pkg_commands.proofs.changing.add.Goals as goal

pub returns-in-Err-clause-told : goal.returns-in-Err-clause-told
returns-in-Err-clause-told c = refused-then _ _ c.in-Err.fault (rw c.items.ensures at c.in-Err.ensures.told)
