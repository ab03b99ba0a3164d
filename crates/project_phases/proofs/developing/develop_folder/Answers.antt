-- by what the project file says
use Rattle.std.specs.Prelude.{option_map}
use Rattle.project_file.specs.Said.{said as said_project}
use Rattle.pkg_commands.specs.Commands.{said_command}
use Rattle.project_phases.specs.Phases as spec
use Rattle.project_phases.proofs.RefusalLemmas.{goes_on}
use Rattle.project_phases.proofs.developing.develop_folder.Goals as goal

pub returns-in-Ok-clause-told : goal.returns-in-Ok-clause-told
returns-in-Ok-clause-told g c =
    goes_on (g.S.Store.files c.args.store.now) (λ all. spec.folder_project all c.args.path) (spec.developed c.args.path) (option_map said_project c.in-Ok.found) c.in-Ok.ensures.told
    said_command _ c.developed.ensures.told
