-- the identifiers so far, and those to come
use Rattle.std.proofs.Common.{◌≡◌, ◌++◌, drop}
use Rattle.std.specs.Map.{keys_of}
use Rattle.check_command.proofs.claim.ids_of.Given as goal

abbrev pub invariant-loop-pair : goal.invariant-loop-pair
invariant-loop-pair l = keys_of l.pairs ≡ l.ids.items ++ keys_of (drop l.pair-index l.pairs)
