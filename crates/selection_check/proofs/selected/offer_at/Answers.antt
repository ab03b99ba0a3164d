use Rattle.std.proofs.Common.{refl, length, rules, of_calls}
use Rattle.std.proofs.lemmas.Fn.{always_returns_same}
use Rattle.std.proofs.lemmas.Option.{slice_get_read}
use Rattle.jl_versions.specs.Order.{version_cmp}
use Rattle.offer_terms.specs.declared.offer.Offer.{Offer}
use Rattle.selection_check.proofs.OfferSearch.{offer_hit, offer_miss}
use Rattle.selection_check.proofs.selected.offer_at.Goals as goal

pub returns-in-Ok : goal.returns-in-Ok
returns-in-Ok c =
    let found = c.in-Ok.ensures.position (λ (y : Offer). version_cmp y.version c.args.version.now) (always_returns_same _ _ _ (λ a r f called. search (rules, of_calls))) in
    offer_hit c.args.offers.now c.args.version.now c.in-Ok.place c.index-offers-place.result c.requires c.in-Ok.ensures.bound found
    (slice_get_read c.args.offers.now (length c.args.offers.now) c.in-Ok.place c.index-offers-place.result refl c.in-Ok.ensures.bound c.index-offers-place.is)

pub returns-in-Err : goal.returns-in-Err
returns-in-Err c =
    let parted = c.in-Err.ensures.position (λ (y : Offer). version_cmp y.version c.args.version.now) (always_returns_same _ _ _ (λ a r f called. search (rules, of_calls))) in
    offer_miss c.args.offers.now c.args.version.now c.in-Err.field-0 c.requires parted
