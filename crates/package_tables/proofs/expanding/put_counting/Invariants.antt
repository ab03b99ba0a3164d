-- the entries so far are put, and the rest is to be put
use Rattle.std.proofs.Common.{◌≡◌, drop}
use Rattle.package_tables.specs.Row as spec
use Rattle.package_tables.proofs.expanding.put_counting.Given as goal

abbrev pub invariant-loop-entry : goal.invariant-loop-entry
invariant-loop-entry l =
    spec.put_to spec.by_spot l.initial.spots.entries (spec.counting l.strong.entries l.weak.entries l.version l.kind l.entries)
    ≡ spec.put_to spec.by_spot l.spots.entries (spec.counting l.strong.entries l.weak.entries l.version l.kind (drop l.entry-index l.entries))
