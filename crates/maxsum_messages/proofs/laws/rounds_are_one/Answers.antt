use Rattle.std.proofs.Common.{◌∙◌}
use Rattle.maxsum_messages.proofs.Again.{rounds-one}
use Rattle.maxsum_messages.proofs.laws.rounds_are_one.Goals as goal

pub returns : goal.returns
returns g c =
    let none = g.W.Weight.none in
    rounds-one g.W.Ord.cmp g.met.W.Ord.total g.met.W.Weight.equal_is_same none g.W.Weight.plus g.W.Weight.minus g.W.Weight.clip (λ a. g.met.W.Weight.plus_comm none a ∙ g.met.W.Weight.plus_none a)
