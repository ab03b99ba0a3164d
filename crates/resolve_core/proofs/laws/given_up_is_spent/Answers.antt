use Rattle.std.proofs.Common.{◌<◌, subst}
use Rattle.resolve_core.proofs.Bounds.{same_bound}
use Rattle.resolve_core.proofs.laws.given_up_is_spent.Goals as goal

pub returns : goal.returns
returns c book w budget log a = (
  c.spent_is_full.ensures a.graph budget log a.searches,
  subst (λ n. budget < n) (same_bound book w a.graph a.stands) (c.product_suffices.ensures a.graph budget log a.searches),
)
