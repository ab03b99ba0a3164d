-- Without an own package each is another one.
use Rattle.std.proofs.Common.{◌≡◌, IfOk, sym, ap, subst, ◌∙◌}
use Rattle.std.specs.Option.{option_copied}
use Rattle.package_offers.specs.RegistryOffers.{others}
use Rattle.package_offers.proofs.OfferLemmas.{others-none}
use Rattle.package_offers.proofs.offer_parts.others.Goals as goal

pub returns-in-None : goal.returns-in-None
returns-in-None c = sym (ap (λ o. others (option_copied o) c.args.ids.items) c.in-None.is ∙ others-none c.args.ids.items)

pub returns-in-Some : goal.returns-in-Some
returns-in-Some c = subst (λ o. IfOk c.without.result (λ kept. kept.items ≡ others (option_copied o) c.args.ids.items)) (sym c.in-Some.is) c.without.ensures
