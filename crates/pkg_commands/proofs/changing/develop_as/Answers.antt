use Rattle.project_changes.proofs.Refused.{refused-then}
use Rattle.pkg_commands.proofs.changing.develop_as.Goals as goal

pub returns-in-Err-clause-told : goal.returns-in-Err-clause-told
returns-in-Err-clause-told c = refused-then _ _ c.in-Err.fault c.in-Err.ensures.told
