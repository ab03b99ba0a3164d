use Rattle.std.proofs.Common.{◌∙◌, arith}
use Rattle.pkg_world.proofs.Each.{rest-step}
use Rattle.registry_tables.proofs.Adding.{depots-next}
use Rattle.registry_tables.proofs.depots.add_depots.Goals as goal

pub depots-preserved : goal.depots-preserved
depots-preserved g c =
    let (same, later, other, comes) = c.depots.invariant in
    let next = rest-step c.args.depots.now c.depots.depot-index c.depot-item.result c.depots-test.true c.depot-item.is in (
      c.add_depot.ensures.files ∙ same,
      omega (arith, later, c.add_depot.ensures.later),
      c.add_depot.ensures.other ∙ other,
      depots-next _ c.depot-item.result c.args.depots.now _ _ c.args.found.now c.depots.found c.add_depot.new.found next comes (rw same at c.in_ok-add_depot.ensures.told),
    )
