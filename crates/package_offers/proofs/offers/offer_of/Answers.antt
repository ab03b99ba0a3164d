-- The offer's parts are those of the version's row.
use Rattle.std.proofs.Common.{map, ap, ◌∙◌}
use Rattle.std.specs.Option.{option_copied}
use Rattle.offer_terms.specs.Offered.{allowing}
use Rattle.package_offers.specs.RegistryOffers.{made_compat}
use Rattle.package_offers.proofs.OfferLemmas.{offered-same, parts-same}
use Rattle.package_offers.proofs.offers.offer_of.Goals as goal

pub returns-clause-offered : goal.returns-clause-offered
returns-clause-offered c =
    let same = parts-same (option_copied c.args.own) (option_copied c.args.known) c.args.listed.now c.row-version.result.now c.tables.result.now c.in_ok-row.row
    c.in_ok-deps.deps.items c.in_ok-weak.weak.items (map allowing c.in_ok-compat.compat.items) c.row-version.ensures c.tables.ensures c.in_ok-row.ensures
    c.in_ok-deps.ensures c.in_ok-weak.ensures (c.in_ok-compat.ensures ∙ ap (made_compat c.in_ok-deps.deps.items c.in_ok-weak.weak.items) c.items.ensures) in
    offered-same c.offer_with.result _ _ same c.offer_with.ensures.offered
