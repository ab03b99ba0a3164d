use Rattle.compat_spec.proofs.Meanings.{bounds_are_read, range_place_is_first_bad}
use Rattle.compat_spec.proofs.laws.range_meaning_is_the_grammars.Goals as goal

pub returns-clause-bounds : goal.returns-clause-bounds
returns-clause-bounds c = bounds_are_read

pub returns-clause-place : goal.returns-clause-place
returns-clause-place c = range_place_is_first_bad
