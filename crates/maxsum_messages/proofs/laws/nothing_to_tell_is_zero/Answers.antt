use Rattle.std.proofs.Common.{◌^◌, ◌-◌, arith}
use Rattle.maxsum_messages.proofs.One.{nothing-zero, own-off}
use Rattle.maxsum_messages.proofs.laws.nothing_to_tell_is_zero.Goals as goal

pub returns : goal.returns
returns g c =
    let none = g.W.Weight.none in
    let plus = g.W.Weight.plus in
    let minus = g.W.Weight.minus in
    nothing-zero g.W.Ord.cmp g.met.W.Ord.total g.met.W.Weight.equal_is_same none plus minus g.W.Weight.clip
    (own-off none plus minus g.met.W.Weight.plus_comm g.met.W.Weight.plus_none g.met.W.Weight.minus_plus)
    (g.met.W.Weight.clip_inside none (g.met.W.Weight.within_more 0 (2 ^ 40 - 1) none g.met.W.Weight.none_within (omega arith)))
