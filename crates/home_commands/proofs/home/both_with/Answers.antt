use Rattle.project_file.specs.Said.{said as said_project}
use Rattle.home_commands.specs.Home.{manifest_of, with_manifest}
use Rattle.home_commands.proofs.Phases.{over_files}
use Rattle.home_commands.proofs.home.both_with.Goals as goal

pub returns-in-Err-clause-told : goal.returns-in-Err-clause-told
returns-in-Err-clause-told g c =
    over_files (g.S.Store.files c.args.store.now) (λ all. manifest_of all c.args.file (said_project c.args.project)) (λ all. with_manifest c.args.file (said_project c.args.project)) c.in-Err.status c.in-Err.ensures.told
