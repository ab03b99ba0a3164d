use Rattle.std.proofs.Common.{◌≡◌, ◌∙◌, ap, sym, length}
use Rattle.bit_rows.specs.Rows.{row_at, agree_under}
use Rattle.bit_rows.specs.Stored.{bits_from, words_of}
use Rattle.bit_rows.proofs.RowLemmas.{equal-told}
use Rattle.bit_rows.proofs.table.BitTable.equal.Goals as goal

pub any_difference-requires-clause-others : goal.any_difference-requires-clause-others
any_difference-requires-clause-others c =
    c.words_at.ensures.long ∙ ap words_of (sym (c.words_at.ensures.alike c.args.b c.requires.second)) ∙ sym c.words_at-2.ensures.long

pub any_difference-requires-clause-masks : goal.any_difference-requires-clause-masks
any_difference-requires-clause-masks c =
    c.words_at.ensures.long ∙ ap words_of c.requires.widths ∙ sym c.words.ensures.row.long

pub returns : goal.returns
returns c =
    let n = length c.args.mask.now in
    let other : length (row_at c.args.self.now c.args.b) ≡ n = c.words_at.ensures.alike c.args.b c.requires.second ∙ c.requires.widths in
    equal-told c.words_at.result.now c.words_at-2.result.now c.words.result.now n c.any_difference.result c.words.ensures.row c.any_difference.ensures
    ∙ (λ i. agree_under ((ap (bits_from c.words_at.result.now 0) (sym c.requires.widths) ∙ c.words_at.ensures.bits) i)
    ((ap (bits_from c.words_at-2.result.now 0) (sym other) ∙ c.words_at-2.ensures.bits) i) (c.words.ensures.bits i))
