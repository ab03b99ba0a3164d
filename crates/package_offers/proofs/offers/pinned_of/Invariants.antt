-- the pinned versions so far, and those to come
use Rattle.std.proofs.Common.{◌≡◌, ◌++◌, drop, map}
use Rattle.offer_terms.specs.Demanded.{version_entry}
use Rattle.package_offers.specs.RegistryOffers as spec
use Rattle.package_offers.proofs.offers.pinned_of.Given as goal

abbrev pub invariant-loop-pin : goal.invariant-loop-pin
invariant-loop-pin l = spec.pinned_of l.uuid (map version_entry l.pins) ≡ map (λ v. v.now) l.versions.items ++ spec.pinned_of l.uuid (map version_entry (drop l.pin-index l.pins))
