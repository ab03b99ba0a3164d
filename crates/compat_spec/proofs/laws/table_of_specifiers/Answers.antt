-- Each line computes.
use Rattle.std.proofs.Common.{refl}
use Rattle.compat_spec.specs.Numbers.{number_of, gathered, numbers_of}
use Rattle.compat_spec.specs.Specifiers.{plain, part_of, specifier_of}
use Rattle.compat_spec.proofs.laws.table_of_specifiers.Goals as goal

pub returns-clause-carets : goal.returns-clause-carets
unfolding number_of gathered numbers_of plain part_of specifier_of
returns-clause-carets c = refl

pub returns-clause-tildes : goal.returns-clause-tildes
unfolding number_of gathered numbers_of plain part_of specifier_of
returns-clause-tildes c = refl

pub returns-clause-others : goal.returns-clause-others
unfolding number_of gathered numbers_of plain part_of specifier_of
returns-clause-others c = refl
