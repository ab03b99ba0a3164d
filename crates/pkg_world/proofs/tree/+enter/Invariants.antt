use Rattle.std.proofs.Common.{◌+◌, ◌*◌, length}
use Rattle.pkg_world.proofs.tree.+enter.Given as goal

abbrev pub decreases-enter : goal.decreases-enter
decreases-enter l = 2 * length l.parts.now + 1

abbrev pub decreases-change : goal.decreases-change
decreases-change l = 2 * length l.parts.now
