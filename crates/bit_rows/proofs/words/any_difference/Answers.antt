use Rattle.std.proofs.Common.{◌+◌, ◌*◌, arith, length}
use Rattle.bit_rows.proofs.BitLemmas.{differs_in_bit, differs_in_none}
use Rattle.bit_rows.proofs.words.any_difference.Goals as goal

pub returns-then-do_differ : goal.returns-then-do_differ
returns-then-do_differ c =
    differs_in_bit c.args.a.now c.args.b.now c.args.mask.now (8 * c.loop-n.n) (8 * c.loop-n.n + 8) (λ k. (c.type_inv.mask k).fits) c.if-do_differ.ensures

pub returns-then-a-k-ne0 : goal.returns-then-a-k-ne0
returns-then-a-k-ne0 c =
    differs_in_bit c.args.a.now c.args.b.now c.args.mask.now 0 (length c.args.a.now) (λ k. (c.type_inv.mask k).fits)
    (record { at = c.loop-k.k; low = omega arith; high = c.loop-k-test.true; some = c.if-a-k-ne0.true })

pub returns : goal.returns
returns c =
    differs_in_none c.args.a.now c.args.b.now c.args.mask.now c.requires.masks
    (λ k from to. c.loop-k.invariant k from (omega (arith, to, c.loop-k-test.false)))
