use Rattle.std.proofs.Common.{◌∙◌, ◌+◌, ◌*◌, ◌/◌, ◌%◌, ℕ, ap, sym, subst, arith, length, set, false}
use Rattle.bit_rows.specs.Rows.{row_at}
use Rattle.bit_rows.specs.Stored.{rows_from, HasBit}
use Rattle.bit_rows.proofs.RowLemmas.{back, known, wide, word_known, bit_is, rows-written}
use Rattle.bit_rows.proofs.table.BitTable.clear.Goals as goal

pub overflow_add-start : goal.overflow_add-start
overflow_add-start c =
    omega (arith, word_known c.self.inside.words.items c.self.inside.stride c.self.inside.width c.self.inside.rows c.args.self.now c.self.view_is c.self.invariant c.args.row c.requires.known c.start_of-start.result c.args.place c.start_of-start.ensures c.requires.inside, c.self.inside.words.ok.0, c.self.inside.words.ok.1, c.self.inside.words.small)

pub clear_bit-requires-clause-known : goal.clear_bit-requires-clause-known
clear_bit-requires-clause-known c =
    omega (arith, word_known c.self.inside.words.items c.self.inside.stride c.self.inside.width c.self.inside.rows c.args.self.now c.self.view_is c.self.invariant c.args.row c.requires.known c.start_of-start.result c.args.place c.start_of-start.ensures c.requires.inside, ap length c.deref_mut.ensures.value)

pub returns : goal.returns
returns c =
    let items = c.self.inside.words.items in
    let stride = c.self.inside.stride in
    let width = c.self.inside.width in
    let rows = c.self.inside.rows in
    let new = c.clear_bit.new.words in
    let bit : ℕ = 64 * (c.start_of-start.result + c.args.place / 64) + c.args.place % 64 in
    let here : HasBit items new bit false = subst (λ ws. HasBit ws new bit false) c.deref_mut.ensures.value c.clear_bit.ensures in
    ap (λ ws. rows_from ws stride width rows) (back c.self.inside.words.len new items (c.self.inside.words.ok.0 ∙ sym here.long))
    ∙ rows-written items new stride width rows c.args.row c.args.place false bit
    (bit_is c.self.inside.words.items c.self.inside.stride c.self.inside.width c.self.inside.rows c.args.self.now c.self.view_is c.self.invariant c.args.row c.requires.known c.start_of-start.result c.args.place c.start_of-start.ensures) here
    (known c.self.inside.words.items c.self.inside.stride c.self.inside.width c.self.inside.rows c.args.self.now c.self.view_is c.self.invariant c.args.row c.requires.known)
    (omega (arith, c.requires.inside, wide c.self.inside.words.items c.self.inside.stride c.self.inside.width c.self.inside.rows c.args.self.now c.self.view_is c.self.invariant c.args.row c.requires.known))
    (omega (arith, c.self.invariant.stride_is))
    ∙ ap (λ t. set t c.args.row (set (row_at t c.args.row) c.args.place false)) c.self.view_is
