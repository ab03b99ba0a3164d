-- by the files, or the first of them that is refused
use Rattle.std.specs.Prelude.{true}
use Rattle.project_phases.specs.Phases.{seen, opened_in}
use Rattle.log_check.specs.Answered.{AnswersBy}
use Rattle.check_command.specs.CheckDue.{with_opened, IsAnswerOn}
use Rattle.check_command.proofs.PhaseLemmas.{phase_refuses, phase_goes_on, as_before}
use Rattle.check_command.proofs.check_answer.check.Goals as goal

pub returns-in-Ok-clause-answer : goal.returns-in-Ok-clause-answer
returns-in-Ok-clause-answer g c =
    phase_goes_on (g.S.Store.files c.args.store.now) (λ all. opened_in true all c.args.place.now) (λ all. with_opened all c.args.place.now c.args.proof.now)
    (seen c.in-Ok.opened) c.in-Ok.ensures.told _
    (as_before (λ all answer. AnswersBy (IsAnswerOn all (with_opened all c.args.place.now c.args.proof.now (seen c.in-Ok.opened))) answer) _ _ c.open_project.ensures.files _ c.of_opened.ensures.answer)

pub returns-in-Err-clause-answer : goal.returns-in-Err-clause-answer
returns-in-Err-clause-answer g c =
    phase_refuses (g.S.Store.files c.args.store.now) (λ all. opened_in true all c.args.place.now) (λ all. with_opened all c.args.place.now c.args.proof.now)
    c.in-Err.status c.in-Err.ensures.told
