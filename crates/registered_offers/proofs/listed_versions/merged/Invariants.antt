use Rattle.std.proofs.Common.{◌≡◌, drop, fold}
use Rattle.registered_offers.specs.Merged as spec
use Rattle.registered_offers.proofs.listed_versions.merged.Given as goal

abbrev pub invariant-loop-table : goal.invariant-loop-table
invariant-loop-table l = spec.merged l.tables ≡ fold spec.put_versions l.versions.entries (drop l.table-index l.tables)
