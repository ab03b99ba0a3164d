use Rattle.std.proofs.Common.{◌∙◌, ◌+◌, ◌*◌, ◌/◌, ◌%◌, ◌<◌, ℕ, ap, sym, subst, arith, length, set, true}
use Rattle.bit_rows.specs.Stored.{bits_from, IsRow, HasBit}
use Rattle.bit_rows.proofs.RowLemmas.{back, length-bits, bits-written, written-row}
use Rattle.bit_rows.proofs.row.BitRow.set.Goals as goal

pub set_bit-requires-clause-known : goal.set_bit-requires-clause-known
set_bit-requires-clause-known c =
    omega (arith, ap length c.deref_mut.ensures.value, c.self.invariant.long, c.requires, ap length c.self.view_is, length-bits c.self.inside.words.items 0 c.self.inside.width)

pub invariant_of-self : goal.invariant_of-self
invariant_of-self c =
    let items = c.self.inside.words.items in
    let width = c.self.inside.width in
    let new = c.set_bit.new.words in
    let bit : ℕ = 64 * (c.args.place / 64) + c.args.place % 64 in
    let inside : c.args.place < width = omega (arith, c.requires, ap length c.self.view_is, length-bits items 0 width) in
    let here : HasBit items new bit true = subst (λ ws. HasBit ws new bit true) c.deref_mut.ensures.value c.set_bit.ensures in
    let whole = back c.self.inside.words.len new items (c.self.inside.words.ok.0 ∙ sym here.long) in
    subst (λ ws. IsRow ws width) (sym whole) (written-row items new width c.args.place bit true c.self.invariant here (omega arith) inside)

pub returns : goal.returns
returns c =
    let items = c.self.inside.words.items in
    let width = c.self.inside.width in
    let new = c.set_bit.new.words in
    let bit : ℕ = 64 * (c.args.place / 64) + c.args.place % 64 in
    let inside : c.args.place < width = omega (arith, c.requires, ap length c.self.view_is, length-bits items 0 width) in
    let here : HasBit items new bit true = subst (λ ws. HasBit ws new bit true) c.deref_mut.ensures.value c.set_bit.ensures in
    let whole = back c.self.inside.words.len new items (c.self.inside.words.ok.0 ∙ sym here.long) in
    ap (λ ws. bits_from ws 0 width) whole
    ∙ bits-written items new 0 width c.args.place true bit (omega arith) here inside
    ∙ ap (λ xs. set xs c.args.place true) c.self.view_is
