use Rattle.package_tables.specs.Clash.{same_id, same_ranges}
use Rattle.package_tables.proofs.Clashes.{no_clash_is_clear, ids_alike, ranges_alike}
use Rattle.package_tables.proofs.laws.no_clash_is_one_value.Goals as goal

pub returns-clause-ids : goal.returns-clause-ids
returns-clause-ids c = no_clash_is_clear same_id ids_alike

pub returns-clause-ranges : goal.returns-clause-ranges
returns-clause-ranges c = no_clash_is_clear same_ranges ranges_alike
