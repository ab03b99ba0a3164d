use Rattle.std.proofs.Common.{◌∙◌, ◌+◌, ◌*◌, ◌/◌, ◌%◌, ◌<◌, ap, sym, arith, length}
use Rattle.bit_rows.specs.Rows.{truth_at}
use Rattle.bit_rows.specs.Stored.{is_set}
use Rattle.bit_rows.proofs.RowLemmas.{at, wide, word_known, bit_is, truth-bits}
use Rattle.bit_rows.proofs.table.BitTable.get.Goals as goal

pub overflow_add-start : goal.overflow_add-start
overflow_add-start c =
    omega (arith, word_known c.self.inside.words.items c.self.inside.stride c.self.inside.width c.self.inside.rows c.args.self.now c.self.view_is c.self.invariant c.args.row c.requires.known c.start_of-start.result c.args.place c.start_of-start.ensures c.requires.inside, c.self.inside.words.ok.0, c.self.inside.words.ok.1, c.self.inside.words.small)

pub has_bit-requires-clause-known : goal.has_bit-requires-clause-known
has_bit-requires-clause-known c =
    omega (arith, word_known c.self.inside.words.items c.self.inside.stride c.self.inside.width c.self.inside.rows c.args.self.now c.self.view_is c.self.invariant c.args.row c.requires.known c.start_of-start.result c.args.place c.start_of-start.ensures c.requires.inside, ap length c.deref.ensures.value)

pub returns : goal.returns
returns c =
    let items = c.self.inside.words.items in
    let inside : c.args.place < c.self.inside.width = omega (arith, c.requires.inside, wide c.self.inside.words.items c.self.inside.stride c.self.inside.width c.self.inside.rows c.args.self.now c.self.view_is c.self.invariant c.args.row c.requires.known) in
    c.has_bit.ensures ∙ ap (λ ws. is_set ws (64 * (c.start_of-start.result + c.args.place / 64) + c.args.place % 64)) c.deref.ensures.value
    ∙ ap (is_set items) (bit_is c.self.inside.words.items c.self.inside.stride c.self.inside.width c.self.inside.rows c.args.self.now c.self.view_is c.self.invariant c.args.row c.requires.known c.start_of-start.result c.args.place c.start_of-start.ensures)
    ∙ sym (ap (λ xs. truth_at xs c.args.place) (at c.self.inside.words.items c.self.inside.stride c.self.inside.width c.self.inside.rows c.args.self.now c.self.view_is c.self.invariant c.args.row c.requires.known)
    ∙ truth-bits items (64 * (c.args.row * c.self.inside.stride)) c.self.inside.width c.args.place inside)
