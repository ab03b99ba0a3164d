-- The first registry's tables give the name, and all of them the offers.
use Rattle.std.proofs.Common.{map, option_map, ap, ◌∙◌}
use Rattle.offer_terms.specs.Demanded.{version_entry}
use Rattle.package_offers.specs.RegistryOffers.{registry_offers}
use Rattle.offer_book.specs.Made.{scope_of}
use Rattle.offer_book.proofs.SourceLemmas.{registered-is, registered-none}
use Rattle.offer_book.proofs.source.registered.Goals as goal

pub returns-in_ok-name-in-Some-clause-registered : goal.returns-in_ok-name-in-Some-clause-registered
returns-in_ok-name-in-Some-clause-registered c =
    let u = c.args.uuid.now in
    let tables = c.args.tables.now in
    registered-is c.args.catalog.now (scope_of c.args.demand.now) u tables c.in-Some.first.now _ _ c.in-Some.ensures.value (c.in_ok-name-in-Some.ensures ∙ c.name.ensures)
    (c.in_ok-offers-in-Some.ensures.offers ∙ (λ i. registry_offers u (c.own_of.ensures i) (map version_entry (c.items.ensures i)) (c.tree_extensions.ensures i) tables))

pub returns-in-None-clause-registered : goal.returns-in-None-clause-registered
returns-in-None-clause-registered c = registered-none c.args.catalog.now (scope_of c.args.demand.now) c.args.uuid.now c.args.tables.now c.in-None.ensures.value
