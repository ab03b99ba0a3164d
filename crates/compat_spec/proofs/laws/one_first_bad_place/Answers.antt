-- Of two first bad places neither is earlier.
use Rattle.compat_spec.specs.Specifiers.{IsSpecifier}
use Rattle.compat_spec.specs.Ranges.{IsRange}
use Rattle.jl_versions.specs.FirstBad.{one_place}
use Rattle.compat_spec.proofs.laws.one_first_bad_place.Goals as goal

pub returns-clause-specifier : goal.returns-clause-specifier
returns-clause-specifier c = λ text a b first second. one_place (λ t. IsSpecifier t) text a b first second

pub returns-clause-range : goal.returns-clause-range
returns-clause-range c = λ text a b first second. one_place (λ t. IsRange t) text a b first second
