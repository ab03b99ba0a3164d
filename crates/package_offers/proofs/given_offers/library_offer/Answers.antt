-- The offer's parts are those that the library says.
use Rattle.std.proofs.Common.{[], refl, ap, ◌∙◌}
use Rattle.std.specs.Option.{option_copied}
use Rattle.package_offers.specs.GivenOffers.{as_given}
use Rattle.package_offers.proofs.GivenLemmas.{given-same}
use Rattle.package_offers.proofs.OfferLemmas.{offered-same}
use Rattle.package_offers.proofs.given_offers.library_offer.Goals as goal

pub returns-clause-offered : goal.returns-clause-offered
returns-clause-offered c =
    let same = given-same (option_copied c.args.own) (as_given c.args.library.now) c.items-weak_listed.result.now c.items-deps_listed.result.now []
    c.in_ok-deps.deps.items c.in_ok-weak.weak.items []
    (c.items-weak_listed.ensures.items ∙ c.weak.ensures) (c.items-deps_listed.ensures.items ∙ c.deps.ensures) refl c.in_ok-deps.ensures c.in_ok-weak.ensures refl in
    offered-same c.library_with.result _ _ same c.library_with.ensures.offered
