use Rattle.std.proofs.Common.{map, sym, subst}
use Rattle.std.specs.List.Sorted.{IsStrictlySortedBy}
use Rattle.offer_terms.specs.ById.{AreRising}
use Rattle.offer_terms.proofs.by_id.ById.make.Goals as goal

pub invariant_of-result : goal.invariant_of-result
unfolding IsStrictlySortedBy
invariant_of-result g c = subst (λ xs. AreRising (map g.T.Identified.id_of xs)) (sym c.make.ensures.items) tt
