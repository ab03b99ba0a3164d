-- the entries so far are grouped, and the rest is to be joined
use Rattle.std.proofs.Common.{◌≡◌, drop, fold}
use Rattle.package_tables.specs.Clash as spec
use Rattle.package_tables.proofs.groups.groups.Given as goal

abbrev pub invariant-loop-entry : goal.invariant-loop-entry
invariant-loop-entry g l = spec.grouped l.entries ≡ fold spec.joining l.grouped.entries (drop l.entry-index l.entries)
