-- The offer's parts are those that the fixed package says.
use Rattle.std.proofs.Common.{map}
use Rattle.std.specs.Option.{option_copied}
use Rattle.offer_terms.specs.Demanded.{fixed_said}
use Rattle.offer_terms.specs.Offered.{allowing}
use Rattle.package_offers.proofs.GivenLemmas.{given-same}
use Rattle.package_offers.proofs.OfferLemmas.{offered-same}
use Rattle.package_offers.proofs.given_offers.fixed_offer.Goals as goal

pub returns-clause-offered : goal.returns-clause-offered
returns-clause-offered c =
    let same = given-same (option_copied c.args.own) (fixed_said c.args.fixed.now) c.items-weak_listed.result.now c.items-deps_listed.result.now c.items-compat_listed.result.now
    c.in_ok-deps.deps.items c.in_ok-weak.weak.items (map allowing c.in_ok-compat.compat.items)
    c.items-weak_listed.ensures.items c.items-deps_listed.ensures.items c.items-compat_listed.ensures.items c.in_ok-deps.ensures c.in_ok-weak.ensures c.in_ok-compat.ensures in
    offered-same c.fixed_with.result _ _ same c.fixed_with.ensures.offered
