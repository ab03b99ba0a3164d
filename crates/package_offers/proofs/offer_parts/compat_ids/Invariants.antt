-- the entries so far, and those to come
use Rattle.std.proofs.Common.{◌≡◌, ◌++◌, drop, map}
use Rattle.offer_terms.specs.Offered.{allowing}
use Rattle.package_offers.specs.RegistryOffers as spec
use Rattle.package_offers.proofs.offer_parts.compat_ids.Given as goal

abbrev pub invariant-loop-name : goal.invariant-loop-name
invariant-loop-name l =
    spec.made_compat l.deps.items l.weak.items l.list ≡ map allowing l.ids.items ++ spec.made_compat l.deps.items l.weak.items (drop l.name-index l.list)
