use Rattle.std.proofs.Common.{◌≡◌, ◌≤◌, length, map, drop}
use Rattle.toml.specs.View.{table_view}
use Rattle.manifest_file.specs.Written.{members_opt, id_put}
use Rattle.manifest_file.specs.ReadsBack.{IdsBack}
use Rattle.manifest_file.proofs.written.ids_value.Given as goal

abbrev pub invariant-loop-left : goal.invariant-loop-left
invariant-loop-left l = (l.left ≤ length l.ids) × (table_view l.table ≡ members_opt (map id_put (drop l.left l.ids))) × IdsBack (drop l.left l.ids)

abbrev pub decreases-loop-left : goal.decreases-loop-left
decreases-loop-left l = l.left
