use Rattle.std.proofs.Common.{◌≡◌, take}
use Rattle.depot_hash.specs.Trees.{by_key}
use Rattle.depot_hash.specs.Placed.{seen}
use Rattle.depot_hash.proofs.trees.by_key.Given as goal

abbrev pub invariant-loop-entry : goal.invariant-loop-entry
invariant-loop-entry l = seen l.placed.entries ≡ by_key (take l.entry-index l.entries)
