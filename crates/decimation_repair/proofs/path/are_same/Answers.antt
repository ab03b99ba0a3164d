use Rattle.std.proofs.Common.{◌≡◌, length, arith}
use Rattle.decimation_repair.proofs.AdviceLemmas.{same-choices}
use Rattle.decimation_repair.proofs.path.are_same.Goals as goal

pub returns : goal.returns
returns c = λ _.
    let done = c.loop-k-test.false in
    let long : length c.args.one.now ≡ length c.args.other.now = omega (arith, c.if-one-other.false) in
    same-choices c.args.one.now c.args.other.now long
    (λ k h. c.loop-k.invariant.packages k (omega (arith, h, done)))
    (λ k h. c.loop-k.invariant.states k (omega (arith, h, done)))
