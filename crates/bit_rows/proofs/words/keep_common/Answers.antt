use Rattle.std.proofs.Common.{◌≡◌, subst, arith, length}
use Rattle.bit_rows.specs.Stored.{HasMet}
use Rattle.bit_rows.proofs.BitLemmas.{met_bits}
use Rattle.bit_rows.proofs.words.keep_common.Goals as goal

pub returns-clause-bits : goal.returns-clause-bits
returns-clause-bits c =
    let whole : c.loop-k.k ≡ length c.args.target.now = omega (arith, c.loop-k.invariant.long, c.loop-n.invariant.long, c.loop-k-test.false) in
    met_bits c.args.target.now c.args.other.now c.loop-k.target c.requires
    (subst (HasMet c.args.target.now c.args.other.now c.loop-k.target 0) whole c.loop-k.invariant)
