use Rattle.std.proofs.Common.{refl}
use Rattle.selection_check.specs.Needing.{is_marked}
use Rattle.selection_check.proofs.needing.is_set.Goals as goal

pub returns : goal.returns
unfolding is_marked
returns c = refl
