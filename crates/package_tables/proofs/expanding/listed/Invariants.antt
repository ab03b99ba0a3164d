-- the pairs so far, and those to come
use Rattle.std.proofs.Common.{◌≡◌, ◌++◌, map}
use Rattle.std.specs.BTreeMap.{btree_map_len}
use Rattle.package_tables.specs.Row as spec
use Rattle.package_tables.proofs.expanding.listed.Given as goal

abbrev pub invariant-loop-key : goal.invariant-loop-key
invariant-loop-key l =
    map spec.some_ranges (map (λ p. (p.0.0, p.1)) l.initial.spots.entries) ≡ map spec.allowed_in l.list.items ++ map spec.some_ranges (map (λ p. (p.0.0, p.1)) l.spots.entries)

abbrev pub decreases-loop-key : goal.decreases-loop-key
decreases-loop-key l = btree_map_len l.spots
