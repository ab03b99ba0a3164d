use Rattle.home_commands.specs.Home.{both_in}
use Rattle.home_commands.specs.VerifyDue.{verify_of}
use Rattle.home_commands.proofs.Phases.{over_files}
use Rattle.home_commands.proofs.verify_answer.verify.Goals as goal

pub returns-in-Err-clause-answer : goal.returns-in-Err-clause-answer
returns-in-Err-clause-answer g c =
    over_files (g.S.Store.files c.args.store.now) (λ all. both_in all c.args.place.now) (λ all. verify_of all c.args.place.now c.args.name.now c.args.list.now) c.in-Err.status c.in-Err.ensures.told
