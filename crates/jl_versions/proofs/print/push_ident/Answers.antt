-- A number that is read from the identifier is in its type's range.
use Rattle.jl_versions.proofs.Labels.{number_label}
use Rattle.jl_versions.proofs.print.push_ident.Goals as goal

pub returns-in-Number-clause-label : goal.returns-in-Number-clause-label
returns-in-Number-clause-label c = number_label _ c.in-Number.number c.in-Number.is c.push_number.ensures.small
