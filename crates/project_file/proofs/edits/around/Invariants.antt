-- the pairs so far come before the name
use Rattle.std.proofs.Common.{◌≡◌, ◌≤◌, ◌-◌, ◌++◌, ℕ, List, length, take, drop}
use Rattle.project_file.specs.Edits.{with_entry}
use Rattle.project_file.proofs.edits.around.Given as goal

abbrev pub invariant-loop-place : goal.invariant-loop-place
invariant-loop-place l = (l.place ≤ length l.pairs) × ((id : List ℕ) → with_entry l.name id l.pairs ≡ take l.place l.pairs ++ with_entry l.name id (drop l.place l.pairs))

abbrev pub decreases-loop-place : goal.decreases-loop-place
decreases-loop-place l = length l.pairs - l.place
