use Rattle.maxsum_messages.proofs.Again.{silence-one}
use Rattle.maxsum_messages.proofs.laws.silence_is_one.Goals as goal

pub returns : goal.returns
returns g c = silence-one g.W.Weight.none
