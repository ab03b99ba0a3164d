-- The folder above has a shorter path.
use Rattle.std.proofs.Common.{length}
use Rattle.project_places.proofs.folders.+nearest.Given as goal

abbrev pub decreases-nearest : goal.decreases-nearest
decreases-nearest g l = length l.folder.now
