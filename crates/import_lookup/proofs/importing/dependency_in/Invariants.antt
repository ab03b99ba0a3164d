-- The environments so far have not the context.
use Rattle.std.proofs.Common.{◌≡◌, drop}
use Rattle.import_lookup.specs.Import.{dependency_in}
use Rattle.import_lookup.specs.Loading.{kept_maps}
use Rattle.import_lookup.proofs.importing.dependency_in.Given as goal

abbrev pub invariant-loop-env : goal.invariant-loop-env
invariant-loop-env l =
    dependency_in kept_maps l.stack.envs l.context l.name ≡ dependency_in kept_maps (drop l.env-index l.stack.envs) l.context l.name
