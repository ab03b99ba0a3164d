use Rattle.std.proofs.Common.{subst}
use Rattle.project_file.specs.Said.{said as said_project}
use Rattle.project_changes.specs.Faults.{Refuses}
use Rattle.project_changes.specs.Words as spec
use Rattle.project_changes.proofs.Refused.{stops}
use Rattle.project_changes.proofs.removing.remove_names.Goals as goal

pub returns-in-Err-clause-told : goal.returns-in-Err-clause-told
returns-in-Err-clause-told c =
    let after = said_project c.loop-name.after in
    stops spec.without_name after c.args.names.now c.loop-name.name-index c.name-item.result c.loop-name-test.true
    (spec.without_names (said_project c.args.project) c.args.names.now) c.loop-name.invariant.told c.in-Err.fault
    (subst (λ w. Refuses (spec.without_name after w) c.in-Err.fault) c.name-item.is c.in-Err.ensures.told)
