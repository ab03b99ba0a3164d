-- The dependencies so far don't have the name.
use Rattle.std.proofs.Common.{◌≡◌, drop}
use Rattle.env_maps.specs.Maps.{dep_of}
use Rattle.env_maps.proofs.context.dependency_among.Given as goal

abbrev pub invariant-loop-key : goal.invariant-loop-key
invariant-loop-key l = dep_of l.name l.deps ≡ dep_of l.name (drop l.key-index l.deps)
