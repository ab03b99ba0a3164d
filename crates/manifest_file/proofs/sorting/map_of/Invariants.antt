use Rattle.std.proofs.Common.{◌≡◌, ◌≤◌, length, drop}
use Rattle.manifest_file.specs.Saying.{in_name_order}
use Rattle.manifest_file.specs.Sorting.{pairs_of}
use Rattle.manifest_file.proofs.sorting.map_of.Given as goal

abbrev pub invariant-loop-left : goal.invariant-loop-left
invariant-loop-left l = (l.left ≤ length l.pairs) × (pairs_of l.map.entries ≡ in_name_order (drop l.left l.pairs))

abbrev pub decreases-loop-left : goal.decreases-loop-left
decreases-loop-left l = l.left
