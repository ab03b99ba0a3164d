use Rattle.maxsum_messages.proofs.One.{round-one}
use Rattle.maxsum_messages.proofs.laws.round_is_one.Goals as goal

pub returns : goal.returns
returns g c = round-one g.W.Ord.cmp g.met.W.Ord.total g.met.W.Weight.equal_is_same g.W.Weight.none g.W.Weight.plus g.W.Weight.minus g.W.Weight.clip
