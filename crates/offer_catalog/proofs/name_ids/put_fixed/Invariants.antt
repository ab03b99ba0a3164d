-- The packages so far are put, and the rest is to be put.
use Rattle.std.proofs.Common.{◌≡◌, drop, map}
use Rattle.offer_terms.specs.Demanded.{fixed_said}
use Rattle.offer_catalog.specs.Named as spec
use Rattle.offer_catalog.proofs.name_ids.put_fixed.Given as goal

abbrev pub invariant-loop-given : goal.invariant-loop-given
invariant-loop-given l =
    spec.put_ids l.initial.ids.keys (spec.fixed_ids l.name (map fixed_said l.fixed)) ≡ spec.put_ids l.ids.keys (spec.fixed_ids l.name (map fixed_said (drop l.given-index l.fixed)))
