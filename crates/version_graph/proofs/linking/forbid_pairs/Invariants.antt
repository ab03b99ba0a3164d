use Rattle.std.proofs.Common.{take}
use Rattle.version_graph.specs.Links.{ForbidsAll}
use Rattle.version_graph.proofs.linking.forbid_pairs.Given as goal

abbrev pub invariant-loop-pair : goal.invariant-loop-pair
invariant-loop-pair l = ForbidsAll l.initial.links.items l.links.items (take l.pair-index l.pairs)
