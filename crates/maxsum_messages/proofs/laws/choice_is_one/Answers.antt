use Rattle.maxsum_messages.proofs.One.{chosen-one}
use Rattle.maxsum_messages.proofs.OneList.{order-one}
use Rattle.maxsum_messages.proofs.laws.choice_is_one.Goals as goal

pub returns : goal.returns
returns g c = record {
  one_package = chosen-one g.W.Ord.cmp g.met.W.Ord.total g.met.W.Weight.equal_is_same g.W.Weight.minus;
  one_order = λ test value xs ys. order-one g.W.Ord.cmp g.met.W.Ord.total value test xs ys;
}
