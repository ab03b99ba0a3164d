use Rattle.package_tables.specs.Clash.{same_id, same_ranges}
use Rattle.package_tables.proofs.Clashes.{clash_is_first, ids_alike, ranges_alike}
use Rattle.package_tables.proofs.laws.clash_is_first.Goals as goal

pub returns-clause-ids : goal.returns-clause-ids
returns-clause-ids c = clash_is_first same_id ids_alike

pub returns-clause-ranges : goal.returns-clause-ranges
returns-clause-ranges c = clash_is_first same_ranges ranges_alike
