use Rattle.std.proofs.Common.{◌^◌, ◌*◌, ◌+◌, ◌-◌, ◌≤◌, [], length, get_or, drop, ap, subst, sym, arith, length-drop}
use Rattle.std.proofs.lemmas.List.{get_or-drop}
use Rattle.maxsum_messages.proofs.Bounds.{heard-small}
use Rattle.maxsum_messages.proofs.inbox.sum_at.Goals as goal

pub plus-sum-requires : goal.plus-sum-requires
plus-sum-requires g c =
    let none = g.W.Weight.none in
    let Within = g.W.Weight.is_within in
    let rest = drop c.loop-k.k c.args.said.now in
    let own = subst (Within (2 ^ 40)) (sym c.get.ensures) (c.requires.small (c.loop-k.k - 1) c.args.i) in
    let few : length rest ≤ 4095 = omega (arith, length-drop c.loop-k.k c.args.said.now, c.requires.few) in
    let sum = heard-small Within none g.W.Weight.plus g.met.W.Weight.none_within g.met.W.Weight.plus_within g.met.W.Weight.within_more c.args.i rest few
    (λ k. subst (Within (2 ^ 40)) (ap (λ r. get_or r c.args.i none) (sym (get_or-drop c.loop-k.k c.args.said.now k []))) (c.requires.small (c.loop-k.k + k) c.args.i)) in
    g.met.W.Weight.within_more (2 ^ 40 + 4095 * 2 ^ 40) (2 ^ 53) _ (g.met.W.Weight.plus_within (2 ^ 40) (4095 * 2 ^ 40) _ _ own (subst (Within (4095 * 2 ^ 40)) (sym c.loop-k.invariant.summed) sum)) (omega arith)
