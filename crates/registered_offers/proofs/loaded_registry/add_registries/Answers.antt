use Rattle.std.proofs.Common.{◌∙◌, arith}
use Rattle.registered_offers.specs.ListedTables.{registry_at}
use Rattle.pkg_world.proofs.Each.{rest-step, each-next, each-stops}
use Rattle.registry_tables.specs.Answers.{Refuses}
use Rattle.registered_offers.proofs.ReadingLemmas.{stops}
use Rattle.registered_offers.proofs.loaded_registry.add_registries.Goals as goal

pub folders-preserved : goal.folders-preserved
folders-preserved g c =
    let (same, later, other, comes) = c.folders.invariant in
    let next = rest-step c.args.folders.now c.folders.folder-index c.folder-item.result c.folders-test.true c.folder-item.is in (
      c.add_registry.ensures.files ∙ same,
      omega (arith, later, c.add_registry.ensures.later),
      c.add_registry.ensures.other ∙ other,
      each-next _ registry_at c.folder-item.result c.args.folders.now _ _ _ _ _ next comes (rw same at c.in-Ok.ensures.told),
    )

pub returns-in-Err-clause-told : goal.returns-in-Err-clause-told
returns-in-Err-clause-told g c =
    let (same, later, other, comes) = c.folders.invariant in
    let next = rest-step c.args.folders.now c.folders.folder-index c.folder-item.result c.folders-test.true c.folder-item.is in
    each-stops (λ reading. Refuses reading c.in-Err.fault) (stops c.in-Err.fault) _ registry_at c.folder-item.result c.args.folders.now _ _ _ _ next comes (rw same at c.in-Err.ensures.told)
