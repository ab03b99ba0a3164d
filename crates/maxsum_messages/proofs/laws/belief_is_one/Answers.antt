use Rattle.maxsum_messages.proofs.Again.{belief-one}
use Rattle.maxsum_messages.proofs.laws.belief_is_one.Goals as goal

pub returns : goal.returns
returns g c = belief-one g.W.Weight.none g.W.Weight.plus
