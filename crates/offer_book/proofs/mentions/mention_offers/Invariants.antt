-- The offers so far are gone through, and the rest is to be gone through.
use Rattle.std.proofs.Common.{◌≡◌, drop, map}
use Rattle.offer_terms.specs.Offered.{offering}
use Rattle.offer_book.specs.Numbers as spec
use Rattle.offer_book.proofs.mentions.mention_offers.Given as goal

abbrev pub invariant-offers : goal.invariant-offers
invariant-offers l =
    spec.mention_all l.initial.mentions.entries (spec.deps_offered (map offering l.offers))
    ≡ spec.mention_all l.mentions.entries (spec.deps_offered (map offering (drop l.offer-index l.offers)))
