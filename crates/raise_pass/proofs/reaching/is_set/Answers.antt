use Rattle.std.proofs.Common.{refl}
use Rattle.raise_pass.specs.Reached.{is_marked}
use Rattle.raise_pass.proofs.reaching.is_set.Goals as goal

pub returns : goal.returns
unfolding is_marked
returns c = refl
