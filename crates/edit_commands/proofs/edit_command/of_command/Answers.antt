-- by the edit, or its refusal
use Rattle.pkg_commands.specs.Commands.{said_command}
use Rattle.pkg_commands.specs.Edit.{seen as seen_edit}
use Rattle.project_phases.specs.Phases.{seen, edited_as}
use Rattle.edit_commands.specs.EditDue.{with_edit}
use Rattle.edit_commands.proofs.EndLemmas.{edit_refuses, edit_goes_on}
use Rattle.edit_commands.proofs.edit_command.of_command.Goals as goal

pub returns-in-Ok-clause-answer : goal.returns-in-Ok-clause-answer
returns-in-Ok-clause-answer g c =
    edit_goes_on (g.S.Store.files c.args.store.now) (edited_as (said_command c.args.command) c.args.place.now (seen c.args.opened)) (λ all. with_edit all c.args.opened.catalog)
    c.args.options.now (seen_edit c.in-Ok.edited) c.in-Ok.ensures.told _ c.of_edited.ensures.answer

pub returns-clause-answer : goal.returns-clause-answer
returns-clause-answer g c =
    edit_refuses (g.S.Store.files c.args.store.now) (edited_as (said_command c.args.command) c.args.place.now (seen c.args.opened)) (λ all. with_edit all c.args.opened.catalog)
    c.args.options.now c.in-Err.status c.in-Err.ensures.told
