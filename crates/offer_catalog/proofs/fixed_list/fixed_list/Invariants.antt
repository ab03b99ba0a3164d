-- The packages so far are listed, and the rest is left, with the identifiers of both.
use Rattle.std.proofs.Common.{◌≡◌, ◌++◌, map}
use Rattle.std.specs.BTreeMap.{btree_map_len}
use Rattle.offer_terms.specs.Demanded.{fixed_said}
use Rattle.offer_catalog.specs.Catalogued.{fixed_of}
use Rattle.offer_catalog.proofs.fixed_list.fixed_list.Given as goal

abbrev pub invariant-packages : goal.invariant-packages
invariant-packages l =
    (map fixed_of l.fn.packages.entries ≡ map fixed_said l.list.items ++ map fixed_of l.left.entries) ×
    (map (λ e. e.0) l.fn.packages.entries ≡ map (λ it. it.uuid) l.list.items ++ map (λ e. e.0) l.left.entries)

abbrev pub decreases-packages : goal.decreases-packages
decreases-packages l = btree_map_len l.left
