-- The depots run out.
use Rattle.std.proofs.Common.{length}
use Rattle.project_places.proofs.folders.+first_environment.Given as goal

abbrev pub decreases-first_environment : goal.decreases-first_environment
decreases-first_environment g l = length l.depots.now
