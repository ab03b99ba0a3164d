use Rattle.jl_versions.specs.OrderLaws.{one_way, strict, through}
use Rattle.jl_versions.proofs.laws.order_is_total.Goals as goal

pub returns-clause-one_way : goal.returns-clause-one_way
returns-clause-one_way c = one_way

pub returns-clause-strict : goal.returns-clause-strict
returns-clause-strict c = strict

pub returns-clause-through : goal.returns-clause-through
returns-clause-through c = through
