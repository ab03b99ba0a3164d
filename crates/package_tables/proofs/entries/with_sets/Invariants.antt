-- the entries so far
use Rattle.std.proofs.Common.{◌≡◌, map}
use Rattle.package_tables.specs.Sections as spec
use Rattle.package_tables.proofs.entries.with_sets.Given as goal

abbrev pub invariant-loop-entry : goal.invariant-loop-entry
invariant-loop-entry l = map spec.bare l.list.items ≡ l.yielded
