use Rattle.offer_terms.proofs.Rising.{rising-remove}
use Rattle.offer_terms.proofs.by_id.ById.remove.Goals as goal

pub invariant_of-self : goal.invariant_of-self
invariant_of-self g c = rw c.remove.ensures.items (rising-remove g.T.Identified.id_of c.self.inside.inside.items c.args.place c.self.invariant)
