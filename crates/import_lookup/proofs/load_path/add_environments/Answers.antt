use Rattle.std.proofs.Common.{◌∙◌, arith}
use Rattle.pkg_world.proofs.Each.{rest-step, each-next}
use Rattle.project_places.proofs.Each.{each-stops}
use Rattle.import_lookup.specs.LoadPath.{environment_of}
use Rattle.import_lookup.proofs.load_path.add_environments.Goals as goal

pub texts-preserved : goal.texts-preserved
texts-preserved g c =
    let (same, later, other, comes) = c.texts.invariant in
    let next = rest-step c.args.texts.now c.texts.text-index c.text-item.result c.texts-test.true c.text-item.is in (
      c.add_environment.ensures.files ∙ same,
      omega (arith, later, c.add_environment.ensures.later),
      c.add_environment.ensures.other ∙ other,
      each-next _ (λ all. environment_of all c.args.place.now) c.text-item.result c.args.texts.now _ _ _ _ _ next comes (rw same at c.in-Ok.ensures.told),
    )

pub returns-in-Err-clause-told : goal.returns-in-Err-clause-told
returns-in-Err-clause-told g c =
    let (same, later, other, comes) = c.texts.invariant in
    let next = rest-step c.args.texts.now c.texts.text-index c.text-item.result c.texts-test.true c.text-item.is in
    each-stops _ (λ all. environment_of all c.args.place.now) c.text-item.result c.args.texts.now _ _ _ _ c.in-Err.fault next comes (rw same at c.in-Err.ensures.told)
