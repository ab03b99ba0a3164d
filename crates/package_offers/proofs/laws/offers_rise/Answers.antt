use Rattle.package_offers.proofs.OfferLemmas.{offers-rise}
use Rattle.package_offers.proofs.laws.offers_rise.Goals as goal

pub returns : goal.returns
returns c = offers-rise
