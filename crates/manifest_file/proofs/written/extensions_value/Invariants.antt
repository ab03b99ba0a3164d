use Rattle.std.proofs.Common.{◌≡◌, ◌≤◌, length, map, drop}
use Rattle.toml.specs.View.{table_view}
use Rattle.manifest_file.specs.Written.{members_opt, triggers_put}
use Rattle.manifest_file.proofs.written.extensions_value.Given as goal

abbrev pub invariant-loop-left : goal.invariant-loop-left
invariant-loop-left l = (l.left ≤ length l.extensions) × (table_view l.table ≡ members_opt (map triggers_put (drop l.left l.extensions)))

abbrev pub decreases-loop-left : goal.decreases-loop-left
decreases-loop-left l = l.left
