use Rattle.std.proofs.Common.{◌∙◌, arith}
use Rattle.pkg_world.proofs.Each.{rest-step}
use Rattle.registry_tables.proofs.Adding.{names-next}
use Rattle.registry_tables.proofs.depots.add_names.Goals as goal

pub names-preserved : goal.names-preserved
names-preserved g c =
    let (same, later, other, comes) = c.names.invariant in
    let next = rest-step c.args.names.now c.names.name-index c.name-item.result c.names-test.true c.name-item.is in (
      c.add_name.ensures.files ∙ same,
      omega (arith, later, c.add_name.ensures.later),
      c.add_name.ensures.other ∙ other,
      names-next _ c.args.folder.now c.name-item.result c.args.names.now _ _ c.args.found.now c.names.found c.add_name.new.found next comes (rw same at c.in_ok-add_name.ensures.told),
    )
