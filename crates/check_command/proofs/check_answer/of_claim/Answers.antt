-- by the edit, or its refusal
use Rattle.pkg_commands.specs.Edit.{seen as seen_edit}
use Rattle.pkg_commands.specs.Commands.{resolve}
use Rattle.project_phases.specs.Phases.{seen, edited_as}
use Rattle.check_command.specs.CheckDue.{with_demand, seen_claim}
use Rattle.check_command.proofs.PhaseLemmas.{edit_refuses, edit_goes_on}
use Rattle.check_command.proofs.check_answer.of_claim.Goals as goal

pub returns-in-Ok-clause-answer : goal.returns-in-Ok-clause-answer
returns-in-Ok-clause-answer g c =
    edit_goes_on (g.S.Store.files c.args.store.now) (edited_as resolve c.args.place.now (seen c.args.opened)) (λ all edit. with_demand all c.args.opened.catalog (seen_claim c.args.claim) edit.demand)
    (seen_edit c.in-Ok.edited) c.in-Ok.ensures.told _ c.of_demand.ensures.answer

pub returns-in-Err-clause-answer : goal.returns-in-Err-clause-answer
returns-in-Err-clause-answer g c =
    edit_refuses (g.S.Store.files c.args.store.now) (edited_as resolve c.args.place.now (seen c.args.opened)) (λ all edit. with_demand all c.args.opened.catalog (seen_claim c.args.claim) edit.demand)
    c.in-Err.status c.in-Err.ensures.told
