-- The packages so far are put, and the rest is to be put.
use Rattle.std.proofs.Common.{◌≡◌, drop}
use Rattle.offer_catalog.specs.Named as spec
use Rattle.offer_catalog.proofs.name_ids.put_packages.Given as goal

abbrev pub invariant-loop-listed : goal.invariant-loop-listed
invariant-loop-listed l = spec.put_ids l.initial.ids.keys (spec.listed_ids l.name l.packages) ≡ spec.put_ids l.ids.keys (spec.listed_ids l.name (drop l.listed-index l.packages))
