-- the pairs so far, and those to come
use Rattle.std.proofs.Common.{◌≡◌, ◌++◌, drop}
use Rattle.project_file.proofs.edits.copy_pairs.Given as goal

abbrev pub invariant-loop-name : goal.invariant-loop-name
invariant-loop-name l = l.initial.made.items ++ l.pairs ≡ l.made.items ++ drop l.name-index l.pairs
