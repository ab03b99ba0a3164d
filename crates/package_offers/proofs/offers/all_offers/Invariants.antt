-- the offers so far, and those of the versions to come
use Rattle.std.proofs.Common.{◌≡◌, ◌++◌, map, filter}
use Rattle.std.specs.BTreeMap.{btree_map_len}
use Rattle.std.specs.Map.{values_of}
use Rattle.std.specs.Option.{option_copied}
use Rattle.offer_terms.specs.Kept.{AreNumbered}
use Rattle.offer_terms.specs.Offered.{offering}
use Rattle.package_offers.specs.RegistryOffers as spec
use Rattle.package_offers.proofs.offers.all_offers.Given as goal

abbrev pub invariant-versions : goal.invariant-versions
invariant-versions l = record {
  offered : map (spec.offering_of (option_copied l.fn.own) (option_copied l.fn.known)) (filter (λ listed. spec.is_offered (map (λ v. v.now) l.pinned) listed.0) (values_of l.fn.versions.entries))
      ≡ map offering l.offers.items ++ map (spec.offering_of (option_copied l.fn.own) (option_copied l.fn.known)) (filter (λ listed. spec.is_offered (map (λ v. v.now) l.pinned) listed.0) (values_of l.versions.entries));
  numbered : AreNumbered l.number l.offers.items;
}

abbrev pub decreases-versions : goal.decreases-versions
decreases-versions l = btree_map_len l.versions
