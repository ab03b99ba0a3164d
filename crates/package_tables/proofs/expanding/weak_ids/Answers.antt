-- The names stand in order, since the map's do.
use Rattle.std.proofs.Common.{◌≡◌, [], arith}
use Rattle.std.proofs.lemmas.Grind.{common_steps}
use Rattle.package_tables.specs.Row as spec
use Rattle.package_tables.proofs.NamesInOrder.{by_name-taken}
use Rattle.package_tables.proofs.expanding.weak_ids.Goals as goal

pub of-requires : goal.of-requires
of-requires c =
    let none : c.loop-key.weak.entries ≡ [] = grind (arith, common_steps) in
    by_name-taken (λ p. spec.is_package p.1) c.args.weak.entries c.loop-key.weak.entries c.loop-key.ids.items c.len-count.ensures.ordered c.loop-key.invariant none
