-- The registries so far are put, and the rest is to be put.
use Rattle.std.proofs.Common.{◌≡◌, drop, fold}
use Rattle.offer_catalog.specs.Named as spec
use Rattle.offer_catalog.proofs.name_ids.put_registries.Given as goal

abbrev pub invariant-loop-registry : goal.invariant-loop-registry
invariant-loop-registry l = fold (spec.put_registry l.name) l.initial.ids.keys l.registries ≡ fold (spec.put_registry l.name) l.ids.keys (drop l.registry-index l.registries)
