-- by what is claimed
use Rattle.project_phases.specs.Phases.{seen}
use Rattle.check_command.specs.CheckDue.{with_claim}
use Rattle.check_command.proofs.PhaseLemmas.{claim_as}
use Rattle.check_command.proofs.check_answer.of_opened.Goals as goal

pub returns-in-Ok-clause-answer : goal.returns-in-Ok-clause-answer
returns-in-Ok-clause-answer g c =
    claim_as (g.S.Store.files c.args.store.now) (λ all claim. with_claim all c.args.place.now claim (seen c.args.opened)) _ _ c.in-Ok.ensures _ c.of_claim.ensures.answer
