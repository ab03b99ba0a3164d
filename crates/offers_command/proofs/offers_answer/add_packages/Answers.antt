use Rattle.std.proofs.Common.{◌∙◌, arith}
use Rattle.offers_command.specs.OffersDue.{package_in}
use Rattle.pkg_world.proofs.Each.{rest-step, each-next, each-stops}
use Rattle.registry_tables.specs.Answers.{Refuses}
use Rattle.registered_offers.proofs.ReadingLemmas.{stops}
use Rattle.offers_command.proofs.offers_answer.add_packages.Goals as goal

pub uuids-preserved : goal.uuids-preserved
uuids-preserved g c =
    let (same, later, other, comes) = c.uuids.invariant in
    let next = rest-step c.args.uuids.now c.uuids.uuid-index c.uuid-item.result c.uuids-test.true c.uuid-item.is in (
      c.add_package.ensures.files ∙ same,
      omega (arith, later, c.add_package.ensures.later),
      c.add_package.ensures.other ∙ other,
      each-next _ (λ all. package_in all c.args.list.now) c.uuid-item.result c.args.uuids.now _ _ _ _ _ next comes (rw same at c.in-Ok.ensures.told),
    )

pub returns-in-Err-clause-told : goal.returns-in-Err-clause-told
returns-in-Err-clause-told g c =
    let (same, later, other, comes) = c.uuids.invariant in
    let next = rest-step c.args.uuids.now c.uuids.uuid-index c.uuid-item.result c.uuids-test.true c.uuid-item.is in
    each-stops (λ reading. Refuses reading c.in-Err.fault) (stops c.in-Err.fault) _ (λ all. package_in all c.args.list.now) c.uuid-item.result c.args.uuids.now _ _ _ _ next comes (rw same at c.in-Err.ensures.told)
