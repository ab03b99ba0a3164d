-- by the command, or the refusal of the folder that is to be developed
use Rattle.command_answers.specs.Endings.{EndsBy}
use Rattle.pkg_commands.specs.Commands.{said_command}
use Rattle.project_phases.specs.Phases.{seen, said_wish, command_in}
use Rattle.edit_commands.specs.EditDue.{with_command, IsAnswerOn}
use Rattle.edit_commands.proofs.EndLemmas.{phase_refuses, phase_goes_on, as_before}
use Rattle.edit_commands.proofs.edit_command.of_opened.Goals as goal

pub returns-in-Ok-clause-answer : goal.returns-in-Ok-clause-answer
returns-in-Ok-clause-answer g c =
    phase_goes_on (g.S.Store.files c.args.store.now) (λ all. command_in all (said_wish c.args.wish)) (λ all. with_command all c.args.place.now (seen c.args.opened)) c.args.options.now
    (said_command c.in-Ok.command) c.in-Ok.ensures.told _
    (as_before (λ all answer. EndsBy (IsAnswerOn (with_command all c.args.place.now (seen c.args.opened) (said_command c.in-Ok.command)) c.args.options.now) answer) _ _ c.command_of.ensures.files _ c.of_command.ensures.answer)

pub returns-in-Err-clause-answer : goal.returns-in-Err-clause-answer
returns-in-Err-clause-answer g c =
    phase_refuses (g.S.Store.files c.args.store.now) (λ all. command_in all (said_wish c.args.wish)) (λ all. with_command all c.args.place.now (seen c.args.opened)) c.args.options.now
    c.in-Err.status c.in-Err.ensures.told
