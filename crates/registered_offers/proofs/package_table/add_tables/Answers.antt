use Rattle.std.proofs.Common.{◌∙◌, arith}
use Rattle.registered_offers.specs.ListedTables.{tables_at}
use Rattle.pkg_world.proofs.Each.{rest-step, each-next, each-stops}
use Rattle.registry_tables.specs.Answers.{Refuses}
use Rattle.registered_offers.proofs.ReadingLemmas.{stops}
use Rattle.registered_offers.proofs.package_table.add_tables.Goals as goal

pub registries-preserved : goal.registries-preserved
registries-preserved g c =
    let (same, later, other, comes) = c.registries.invariant in
    let next = rest-step c.args.registries.now c.registries.registry-index c.registry-item.result c.registries-test.true c.registry-item.is in (
      c.add_rows.ensures.files ∙ same,
      omega (arith, later, c.add_rows.ensures.later),
      c.add_rows.ensures.other ∙ other,
      each-next _ (λ all. tables_at all c.args.uuid.now) c.registry-item.result c.args.registries.now _ _ _ _ _ next comes (rw same at c.in-Ok.ensures.told),
    )

pub returns-in-Err-clause-told : goal.returns-in-Err-clause-told
returns-in-Err-clause-told g c =
    let (same, later, other, comes) = c.registries.invariant in
    let next = rest-step c.args.registries.now c.registries.registry-index c.registry-item.result c.registries-test.true c.registry-item.is in
    each-stops (λ reading. Refuses reading c.in-Err.fault) (stops c.in-Err.fault) _ (λ all. tables_at all c.args.uuid.now) c.registry-item.result c.args.registries.now _ _ _ _ next comes (rw same at c.in-Err.ensures.told)
