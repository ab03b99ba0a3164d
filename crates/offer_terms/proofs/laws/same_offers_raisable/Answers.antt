use Rattle.offer_terms.proofs.Offers.{same_offers_raise}
use Rattle.offer_terms.proofs.laws.same_offers_raisable.Goals as goal

pub returns : goal.returns
returns c = same_offers_raise
