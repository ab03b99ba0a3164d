-- The package has its one offer.
use Rattle.std.proofs.Common.{◌∙◌, subst}
use Rattle.offer_terms.specs.Kept.{AreNumbered}
use Rattle.offer_book.proofs.SourceLemmas.{found-alone}
use Rattle.offer_book.proofs.source.found_library.Goals as goal

pub returns-clause-found : goal.returns-clause-found
returns-clause-found c = found-alone _ _ c.in_ok-offers.offers.items c.in_ok-offer.offer _ (c.in_ok-name.ensures ∙ c.name.ensures) c.in_ok-offers.ensures.offers c.in_ok-offer.ensures.offered

pub returns-clause-numbered : goal.returns-clause-numbered
returns-clause-numbered c =
    (subst (λ n. AreNumbered n c.in_ok-offers.offers.items) c.in_ok-offer.ensures.numbered c.in_ok-offers.ensures.numbered, c.in_ok-offers.ensures.rising)
