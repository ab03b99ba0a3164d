-- The environments so far give the name no identity.
use Rattle.std.proofs.Common.{◌≡◌, drop}
use Rattle.import_lookup.specs.Import.{root_in}
use Rattle.import_lookup.specs.Loading.{kept_maps}
use Rattle.import_lookup.proofs.importing.root_in.Given as goal

abbrev pub invariant-loop-env : goal.invariant-loop-env
invariant-loop-env l =
    root_in kept_maps l.stack.envs l.name ≡ root_in kept_maps (drop l.env-index l.stack.envs) l.name
