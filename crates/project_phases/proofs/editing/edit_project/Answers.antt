-- an edit that is refused
use Rattle.project_file.specs.Said.{said as said_project}
use Rattle.manifest_file.specs.Said.{said as said_manifest}
use Rattle.pkg_commands.specs.Commands.{said_command}
use Rattle.pkg_commands.specs.Edit.{edited}
use Rattle.project_phases.proofs.RefusalLemmas.{edit_refuses}
use Rattle.project_phases.proofs.editing.edit_project.Goals as goal

pub returns-in-Err-clause-told : goal.returns-in-Err-clause-told
returns-in-Err-clause-told c =
    edit_refuses (edited (said_command c.args.command) c.args.catalog.now c.args.place.now (said_project c.args.project) (said_manifest c.args.manifest))
    c.in-Err.fault _ c.edit_status.ensures c.in-Err.ensures.told
