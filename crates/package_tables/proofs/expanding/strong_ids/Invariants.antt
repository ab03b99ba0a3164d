-- the pairs so far, and those to come
use Rattle.std.proofs.Common.{◌≡◌, ◌++◌, ◌&&◌, filter}
use Rattle.std.specs.BTreeMap.{btree_map_len}
use Rattle.package_tables.specs.Row as spec
use Rattle.package_tables.proofs.expanding.strong_ids.Given as goal

abbrev pub invariant-loop-key : goal.invariant-loop-key
invariant-loop-key l =
    filter (λ p. spec.is_absent (spec.value_of p.0 l.weak.entries) && spec.is_package p.1) l.initial.strong.entries
    ≡ l.ids.items ++ filter (λ p. spec.is_absent (spec.value_of p.0 l.weak.entries) && spec.is_package p.1) l.strong.entries

abbrev pub decreases-loop-key : goal.decreases-loop-key
decreases-loop-key l = btree_map_len l.strong
