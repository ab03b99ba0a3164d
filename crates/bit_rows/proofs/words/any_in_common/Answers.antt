use Rattle.std.proofs.Common.{◌+◌, ◌*◌, arith, length}
use Rattle.bit_rows.proofs.BitLemmas.{shares_bit, shares_none}
use Rattle.bit_rows.proofs.words.any_in_common.Goals as goal

pub returns-then-do_meet : goal.returns-then-do_meet
returns-then-do_meet c =
    shares_bit c.args.a.now c.args.b.now (8 * c.loop-n.n) (8 * c.loop-n.n + 8) (λ k. (c.type_inv.b k).fits) c.if-do_meet.ensures

pub returns-then-a-k-ne0 : goal.returns-then-a-k-ne0
returns-then-a-k-ne0 c =
    shares_bit c.args.a.now c.args.b.now 0 (length c.args.a.now) (λ k. (c.type_inv.b k).fits)
    (record { at = c.loop-k.k; low = omega arith; high = c.loop-k-test.true; some = c.if-a-k-ne0.true })

pub returns : goal.returns
returns c =
    shares_none c.args.a.now c.args.b.now
    (λ k from to. c.loop-k.invariant k from (omega (arith, to, c.loop-k-test.false)))
