use Rattle.std.proofs.Common.{subst}
use Rattle.project_file.specs.Said.{said as said_project}
use Rattle.manifest_file.specs.Said.{said as said_manifest}
use Rattle.project_changes.specs.Faults.{Refuses}
use Rattle.project_changes.specs.Words as spec
use Rattle.project_changes.proofs.Refused.{stops}
use Rattle.project_changes.proofs.adding.add_words.Goals as goal

pub returns-in-Err-clause-told : goal.returns-in-Err-clause-told
returns-in-Err-clause-told c =
    let change = spec.with_word c.args.catalog.now (said_manifest c.args.manifest.now) in
    let after = said_project c.loop-word.after in
    stops change after c.args.words.now c.loop-word.word-index c.word-item.result c.loop-word-test.true
    (spec.with_words c.args.catalog.now (said_manifest c.args.manifest.now) (said_project c.args.project) c.args.words.now) c.loop-word.invariant.told c.in-Err.fault
    (subst (λ w. Refuses (change after w) c.in-Err.fault) c.word-item.is c.in-Err.ensures.told)
