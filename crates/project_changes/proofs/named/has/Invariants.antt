-- no pair so far has the name
use Rattle.std.proofs.Common.{◌≡◌, drop}
use Rattle.project_file.specs.Edits.{has_name}
use Rattle.project_changes.proofs.named.has.Given as goal

abbrev pub invariant-loop-pair : goal.invariant-loop-pair
invariant-loop-pair g l = has_name l.name l.pairs ≡ has_name l.name (drop l.pair-index l.pairs)
