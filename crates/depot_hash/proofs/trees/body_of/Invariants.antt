use Rattle.std.proofs.Common.{◌≡◌, ◌++◌}
use Rattle.std.specs.List.{flat_map}
use Rattle.std.specs.Map.{values_of}
use Rattle.depot_hash.specs.Trees.{line}
use Rattle.depot_hash.specs.Placed.{seen}
use Rattle.depot_hash.proofs.trees.body_of.Given as goal

abbrev pub invariant-loop-entry : goal.invariant-loop-entry
invariant-loop-entry l = l.body.items ++ flat_map (λ e. line e.now) l.entry-iterator ≡ flat_map line (values_of (seen l.placed.entries))
