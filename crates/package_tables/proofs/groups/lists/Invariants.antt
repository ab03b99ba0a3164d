-- the groups so far, and those to come
use Rattle.std.proofs.Common.{◌≡◌, ◌++◌, map, filter}
use Rattle.std.specs.BTreeMap.{btree_map_len}
use Rattle.package_tables.specs.Clash as spec
use Rattle.package_tables.proofs.groups.lists.Given as goal

abbrev pub invariant-loop-group : goal.invariant-loop-group
invariant-loop-group g l =
    filter (spec.is_varied (g.T.SectionValue.same)) (map (λ p. p.1) l.initial.grouped.entries)
    ≡ l.lists.items ++ filter (spec.is_varied (g.T.SectionValue.same)) (map (λ p. p.1) l.grouped.entries)

abbrev pub decreases-loop-group : goal.decreases-loop-group
decreases-loop-group g l = btree_map_len l.grouped
