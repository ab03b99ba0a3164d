use Rattle.std.proofs.Common.{ap, ◌∙◌}
use Rattle.pkg_world.specs.ByName.{is_by_name}
use Rattle.manifest_file.proofs.Sorts.{by_name-in_name_order}
use Rattle.manifest_file.proofs.sorting.in_name_order.Goals as goal

pub of-requires : goal.of-requires
of-requires c = ap is_by_name (c.in_ok-list.ensures ∙ c.in_ok-map.ensures) ∙ by_name-in_name_order c.args.pairs.now
