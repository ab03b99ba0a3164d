use Rattle.std.proofs.Common.{ap}
use Rattle.offer_catalog.specs.Catalogued.{fixed_of}
use Rattle.offer_catalog.proofs.fixed_list.fixed_of.Goals as goal

pub returns-clause-said : goal.returns-clause-said
returns-clause-said c = ap (λ given. fixed_of (c.args.entry.0, given)) c.into_parts-parts.ensures
