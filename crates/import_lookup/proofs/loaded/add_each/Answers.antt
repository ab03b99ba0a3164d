use Rattle.std.proofs.Common.{◌∙◌, arith}
use Rattle.pkg_world.proofs.Each.{each-next}
use Rattle.import_lookup.specs.Loading.{loaded_of}
use Rattle.import_lookup.proofs.loaded.add_each.Goals as goal

pub envs-preserved : goal.envs-preserved
envs-preserved g c =
    let (same, later, other, comes) = c.envs.invariant in (
      c.add_loaded.ensures.files ∙ same,
      omega (arith, later, c.add_loaded.ensures.later),
      c.add_loaded.ensures.other ∙ other,
      each-next _ (λ all. loaded_of all c.args.names.now.items) c.in-Some.env c.args.envs.items _ _ _ _ _ c.in-Some.ensures.items comes (rw same at c.in-Ok.ensures.told),
    )
