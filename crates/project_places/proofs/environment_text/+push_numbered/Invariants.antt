-- The numbers run out.
use Rattle.std.proofs.Common.{length}
use Rattle.project_places.proofs.environment_text.+push_numbered.Given as goal

abbrev pub decreases-push_numbered : goal.decreases-push_numbered
decreases-push_numbered l = length l.numbers.now
