-- the entries so far are put, and the rest is to be put
use Rattle.std.proofs.Common.{◌≡◌, drop}
use Rattle.package_tables.specs.Row as spec
use Rattle.package_tables.proofs.expanding.held.Given as goal

abbrev pub invariant-loop-entry : goal.invariant-loop-entry
invariant-loop-entry g l = spec.by_name (spec.held l.version l.entries) ≡ spec.put_to spec.by_bytes l.names.entries (spec.held l.version (drop l.entry-index l.entries))
