-- the entries so far, and those to come
use Rattle.std.proofs.Common.{◌≡◌, ◌++◌, drop, map}
use Rattle.offer_terms.specs.Offered.{allowing}
use Rattle.package_offers.specs.GivenOffers as spec
use Rattle.package_offers.proofs.given_offers.spec_compat.Given as goal

abbrev pub invariant-loop-name : goal.invariant-loop-name
invariant-loop-name l = spec.spec_compat l.deps.items l.weak.items l.entries ≡ map allowing l.ids.items ++ spec.spec_compat l.deps.items l.weak.items (drop l.name-index l.entries)
