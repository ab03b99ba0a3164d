-- The candidates so far are put, and the rest is to be put.
use Rattle.std.proofs.Common.{◌≡◌, fold}
use Rattle.std.specs.BTreeMap.{btree_map_len}
use Rattle.fixed_packages.specs.FixedPackages as spec
use Rattle.fixed_packages.proofs.order.by_name.Given as goal

abbrev pub invariant-candidates : goal.invariant-candidates
invariant-candidates l = spec.by_name l.fn.found.entries ≡ fold spec.put_named l.packages.entries l.left.entries

abbrev pub decreases-candidates : goal.decreases-candidates
decreases-candidates l = btree_map_len l.left
