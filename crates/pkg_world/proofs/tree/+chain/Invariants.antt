use Rattle.std.proofs.Common.{length}
use Rattle.pkg_world.proofs.tree.+chain.Given as goal

abbrev pub decreases-chain : goal.decreases-chain
decreases-chain l = length l.parts.now
