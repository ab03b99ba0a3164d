-- by the files, or the first of them that is refused
use Rattle.command_answers.specs.Endings.{EndsBy}
use Rattle.project_phases.specs.Phases.{seen, said_wish}
use Rattle.edit_commands.specs.EditDue.{opened_by, with_wish, IsAnswerOn}
use Rattle.edit_commands.proofs.EndLemmas.{phase_refuses, phase_goes_on, as_before}
use Rattle.edit_commands.proofs.edit_command.of_wish.Goals as goal

pub returns-in-Ok-clause-answer : goal.returns-in-Ok-clause-answer
returns-in-Ok-clause-answer g c =
    phase_goes_on (g.S.Store.files c.args.store.now) (λ all. opened_by c.args.begun all c.args.place.now) (λ all. with_wish all c.args.place.now (said_wish c.args.wish))
    c.args.options.now (seen c.in-Ok.opened) c.in-Ok.ensures.told _
    (as_before (λ all answer. EndsBy (IsAnswerOn (with_wish all c.args.place.now (said_wish c.args.wish) (seen c.in-Ok.opened)) c.args.options.now) answer) _ _ c.opened_by.ensures.files _ c.of_opened.ensures.answer)

pub returns-in-Err-clause-answer : goal.returns-in-Err-clause-answer
returns-in-Err-clause-answer g c =
    phase_refuses (g.S.Store.files c.args.store.now) (λ all. opened_by c.args.begun all c.args.place.now) (λ all. with_wish all c.args.place.now (said_wish c.args.wish))
    c.args.options.now c.in-Err.status c.in-Err.ensures.told
