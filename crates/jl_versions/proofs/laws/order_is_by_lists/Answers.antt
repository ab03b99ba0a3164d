use Rattle.jl_versions.specs.OrderLaws.{less_is_below, equal_is_same, eq_is_same}
use Rattle.jl_versions.proofs.laws.order_is_by_lists.Goals as goal

pub returns-clause-below : goal.returns-clause-below
returns-clause-below c = less_is_below

pub returns-clause-equal : goal.returns-clause-equal
returns-clause-equal c = equal_is_same

pub returns-clause-same : goal.returns-clause-same
returns-clause-same c = eq_is_same
