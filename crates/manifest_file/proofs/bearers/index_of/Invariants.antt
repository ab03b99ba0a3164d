use Rattle.std.proofs.Common.{◌≡◌, ℕ, List, ◌≤◌, length, drop}
use Rattle.manifest_file.specs.Saying.{bearers_in}
use Rattle.manifest_file.specs.Sorting.{bearers_by}
use Rattle.manifest_file.proofs.bearers.index_of.Given as goal

abbrev pub invariant-loop-left : goal.invariant-loop-left
invariant-loop-left l = (l.left ≤ length l.groups) × ((q : List ℕ) → bearers_by l.index q ≡ bearers_in (drop l.left l.groups) q)

abbrev pub decreases-loop-left : goal.decreases-loop-left
decreases-loop-left l = l.left
