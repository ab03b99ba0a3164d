use Rattle.package_tables.proofs.Rows.{deps_are_given, weak_are_given, compat_is_given}
use Rattle.package_tables.proofs.laws.rows_are_given.Goals as goal

pub returns-clause-deps : goal.returns-clause-deps
returns-clause-deps c = deps_are_given

pub returns-clause-weak : goal.returns-clause-weak
returns-clause-weak c = weak_are_given

pub returns-clause-compat : goal.returns-clause-compat
returns-clause-compat c = compat_is_given
