use Rattle.std.proofs.Common.{◌≡◌, ◌∙◌, ◌+◌, ◌*◌, ◌/◌, ◌%◌, ◌<◌, ap, sym, arith, length}
use Rattle.bit_rows.specs.Rows.{truth_at}
use Rattle.bit_rows.specs.Stored.{is_set}
use Rattle.bit_rows.proofs.RowLemmas.{length-bits, truth_first}
use Rattle.bit_rows.proofs.row.BitRow.get.Goals as goal

pub has_bit-requires-clause-known : goal.has_bit-requires-clause-known
has_bit-requires-clause-known c =
    omega (arith, ap length c.deref.ensures.value, c.self.invariant.long, c.requires, ap length c.self.view_is, length-bits c.self.inside.words.items 0 c.self.inside.width)

pub returns : goal.returns
returns c =
    let items = c.self.inside.words.items in
    let width = c.self.inside.width in
    let inside : c.args.place < width = omega (arith, c.requires, ap length c.self.view_is, length-bits items 0 width) in
    let at : 64 * (c.args.place / 64) + c.args.place % 64 ≡ c.args.place = omega arith in
    c.has_bit.ensures ∙ ap (λ ws. is_set ws (64 * (c.args.place / 64) + c.args.place % 64)) c.deref.ensures.value ∙ ap (is_set items) at
    ∙ sym (truth_first items width c.args.place inside) ∙ ap (λ xs. truth_at xs c.args.place) c.self.view_is
