use Rattle.jl_versions.proofs.Knows.{version_is_read, place_is_first_bad}
use Rattle.jl_versions.proofs.laws.meaning_is_the_grammars.Goals as goal

pub returns-clause-version : goal.returns-clause-version
returns-clause-version c = version_is_read

pub returns-clause-place : goal.returns-clause-place
returns-clause-place c = place_is_first_bad
