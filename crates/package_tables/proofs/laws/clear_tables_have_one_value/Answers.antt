use Rattle.package_tables.proofs.OneValue.{clear_ids_are_one, clear_ranges_are_one, sections_read}
use Rattle.package_tables.proofs.laws.clear_tables_have_one_value.Goals as goal

pub returns-clause-ids : goal.returns-clause-ids
returns-clause-ids c = clear_ids_are_one

pub returns-clause-ranges : goal.returns-clause-ranges
returns-clause-ranges c = clear_ranges_are_one

pub returns-clause-read : goal.returns-clause-read
returns-clause-read c = sections_read
