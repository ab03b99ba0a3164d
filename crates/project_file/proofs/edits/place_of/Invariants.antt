-- no pair so far has the name
use Rattle.std.proofs.Common.{◌≡◌, ◌≤◌, ◌-◌, ◌++◌, length, take, drop}
use Rattle.project_file.specs.Edits.{has_name, without_entry}
use Rattle.project_file.proofs.edits.place_of.Given as goal

abbrev pub invariant-loop-place : goal.invariant-loop-place
invariant-loop-place g l = record {
  within : l.place ≤ length l.pairs;
  left : without_entry l.name l.pairs ≡ take l.place l.pairs ++ without_entry l.name (drop l.place l.pairs);
  found : has_name l.name l.pairs ≡ has_name l.name (drop l.place l.pairs);
}

abbrev pub decreases-loop-place : goal.decreases-loop-place
decreases-loop-place g l = length l.pairs - l.place
