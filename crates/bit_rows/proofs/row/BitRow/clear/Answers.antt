use Rattle.std.proofs.Common.{◌∙◌, ◌+◌, ◌*◌, ◌/◌, ◌%◌, ◌<◌, ℕ, ap, sym, subst, arith, length, set, false}
use Rattle.bit_rows.specs.Stored.{bits_from, IsRow, HasBit}
use Rattle.bit_rows.proofs.RowLemmas.{back, length-bits, bits-written, written-row}
use Rattle.bit_rows.proofs.row.BitRow.clear.Goals as goal

pub clear_bit-requires-clause-known : goal.clear_bit-requires-clause-known
clear_bit-requires-clause-known c =
    omega (arith, ap length c.deref_mut.ensures.value, c.self.invariant.long, c.requires, ap length c.self.view_is, length-bits c.self.inside.words.items 0 c.self.inside.width)

pub invariant_of-self : goal.invariant_of-self
invariant_of-self c =
    let items = c.self.inside.words.items in
    let width = c.self.inside.width in
    let new = c.clear_bit.new.words in
    let bit : ℕ = 64 * (c.args.place / 64) + c.args.place % 64 in
    let inside : c.args.place < width = omega (arith, c.requires, ap length c.self.view_is, length-bits items 0 width) in
    let here : HasBit items new bit false = subst (λ ws. HasBit ws new bit false) c.deref_mut.ensures.value c.clear_bit.ensures in
    let whole = back c.self.inside.words.len new items (c.self.inside.words.ok.0 ∙ sym here.long) in
    subst (λ ws. IsRow ws width) (sym whole) (written-row items new width c.args.place bit false c.self.invariant here (omega arith) inside)

pub returns : goal.returns
returns c =
    let items = c.self.inside.words.items in
    let width = c.self.inside.width in
    let new = c.clear_bit.new.words in
    let bit : ℕ = 64 * (c.args.place / 64) + c.args.place % 64 in
    let inside : c.args.place < width = omega (arith, c.requires, ap length c.self.view_is, length-bits items 0 width) in
    let here : HasBit items new bit false = subst (λ ws. HasBit ws new bit false) c.deref_mut.ensures.value c.clear_bit.ensures in
    let whole = back c.self.inside.words.len new items (c.self.inside.words.ok.0 ∙ sym here.long) in
    ap (λ ws. bits_from ws 0 width) whole
    ∙ bits-written items new 0 width c.args.place false bit (omega arith) here inside
    ∙ ap (λ xs. set xs c.args.place false) c.self.view_is
