use Rattle.maxsum_messages.proofs.One.{closure-stable}
use Rattle.maxsum_messages.proofs.laws.closure_is_stable.Goals as goal

pub returns : goal.returns
returns c = closure-stable c.closure_is_largest.ensures
