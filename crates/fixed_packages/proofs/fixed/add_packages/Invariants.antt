-- What was read so far stands behind what there was.
use Rattle.std.proofs.Common.{◌≡◌, ◌≤◌, IfSome}
use Rattle.std.specs.BTreeMap.{btree_map_len}
use Rattle.pkg_world.specs.Each.{onto}
use Rattle.fixed_packages.specs.FixedPackages.{packages_read}
use Rattle.fixed_packages.proofs.fixed.add_packages.Given as goal

abbrev pub invariant-packages : goal.invariant-packages
invariant-packages g l =
    (g.S.Store.files l.store ≡ g.S.Store.files l.initial.store) ×
    (g.S.Store.read_faults l.initial.store ≤ g.S.Store.read_faults l.store) ×
    (g.S.Store.write_faults l.store ≡ g.S.Store.write_faults l.initial.store) ×
    IfSome (g.S.Store.files l.initial.store) (λ all. onto l.initial.found.items (packages_read all l.fn.packages.entries) ≡ onto l.found.items (packages_read all l.left.entries))

abbrev pub decreases-packages : goal.decreases-packages
decreases-packages g l = btree_map_len l.left
