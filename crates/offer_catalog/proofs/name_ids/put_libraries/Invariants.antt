-- The libraries so far are put, and the rest is to be put.
use Rattle.std.proofs.Common.{◌≡◌}
use Rattle.offer_catalog.specs.Named as spec
use Rattle.offer_catalog.proofs.name_ids.put_libraries.Given as goal

abbrev pub invariant-libraries : goal.invariant-libraries
invariant-libraries l =
    goal.iterator-libraries.can_next l.uuid-iterator × goal.iterator-libraries.is_finite l.uuid-iterator ×
    (spec.put_ids l.initial.ids.keys (spec.library_ids l.name l.libraries.entries) ≡ spec.put_ids l.ids.keys (spec.library_ids l.name l.uuid-iterator))
