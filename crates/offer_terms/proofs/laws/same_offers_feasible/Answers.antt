use Rattle.offer_terms.proofs.Offers.{same_offers}
use Rattle.offer_terms.proofs.laws.same_offers_feasible.Goals as goal

pub returns : goal.returns
returns c = same_offers
