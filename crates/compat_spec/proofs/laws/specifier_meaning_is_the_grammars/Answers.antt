use Rattle.compat_spec.proofs.Meanings.{parts_are_read, specifier_place_is_first_bad}
use Rattle.compat_spec.proofs.laws.specifier_meaning_is_the_grammars.Goals as goal

pub returns-clause-parts : goal.returns-clause-parts
returns-clause-parts c = parts_are_read

pub returns-clause-place : goal.returns-clause-place
returns-clause-place c = specifier_place_is_first_bad
