use Rattle.std.proofs.Common.{◌∙◌, arith}
use Rattle.env_maps.specs.ByName.{with_name}
use Rattle.env_maps.specs.Library.{library_read}
use Rattle.pkg_world.proofs.Each.{rest-step, each-next}
use Rattle.project_places.proofs.Each.{each-stops}
use Rattle.env_maps.proofs.library.add_libraries.Goals as goal

pub names-preserved : goal.names-preserved
names-preserved g c =
    let (same, later, other, comes) = c.names.invariant in
    let next = rest-step c.args.names.now c.names.name-index c.name-item.result c.names-test.true c.name-item.is in (
      c.add_library.ensures.files ∙ same,
      omega (arith, later, c.add_library.ensures.later),
      c.add_library.ensures.other ∙ other,
      each-next _ (λ all. with_name (library_read all c.args.stdlib.now)) c.name-item.result c.args.names.now _ _ _ _ _ next comes (rw same at c.in-Ok.ensures.told),
    )

pub returns-in-Err-clause-told : goal.returns-in-Err-clause-told
returns-in-Err-clause-told g c =
    let (same, later, other, comes) = c.names.invariant in
    let next = rest-step c.args.names.now c.names.name-index c.name-item.result c.names-test.true c.name-item.is in
    each-stops _ (λ all. with_name (library_read all c.args.stdlib.now)) c.name-item.result c.args.names.now _ _ _ _ c.in-Err.fault next comes (rw same at c.in-Err.ensures.told)
