-- The offers rise, since the merged versions do.
use Rattle.std.proofs.Common.{map, ap, ◌∙◌}
use Rattle.std.specs.Option.{option_copied}
use Rattle.offer_terms.specs.Demanded.{version_entry}
use Rattle.package_offers.proofs.OfferLemmas.{rise-ok}
use Rattle.package_offers.proofs.offers.registry_offers.Goals as goal

pub returns-clause-rising : goal.returns-clause-rising
returns-clause-rising c =
    rise-ok c.all_offers.result c.args.uuid.now (option_copied c.args.own) (map version_entry c.args.pins.now) (option_copied c.args.known) c.args.tables.now _ _
    (ap (map (λ v. v.now)) c.as_slice.ensures.value ∙ c.in_ok-pinned.ensures) c.in_ok-versions.ensures c.all_offers.ensures.offers
