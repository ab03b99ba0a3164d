-- One offer more of the package.
use Rattle.package_offers.proofs.OfferLemmas.{numbered-push}
use Rattle.package_offers.proofs.offers.push_offer.Goals as goal

pub returns-clause-numbered : goal.returns-clause-numbered
returns-clause-numbered c =
    numbered-push c.push.result c.args.number c.args.offers.now.items c.push.new.self.items c.in_ok-offer.offer c.push.ensures.ok c.requires c.in_ok-offer.ensures.numbered
