use Rattle.pkg_commands.proofs.editing.apply.Goals as goal

pub returns-in-Err-clause-told : goal.returns-in-Err-clause-told
returns-in-Err-clause-told c = c.edit_fault.ensures _ _ c.in-Err.ensures.told
