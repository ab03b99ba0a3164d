use Rattle.std.proofs.Common.{◌∙◌, ap, sym, length}
use Rattle.bit_rows.specs.Rows.{any_both}
use Rattle.bit_rows.specs.Stored.{bits_from}
use Rattle.bit_rows.proofs.RowLemmas.{any-told}
use Rattle.bit_rows.proofs.table.BitTable.and_any.Goals as goal

pub returns : goal.returns
returns c =
    let n = length c.args.other.now in
    any-told c.words_at.result.now c.words.result.now n c.any_in_common.result c.words.ensures.row c.any_in_common.ensures
    ∙ (λ i. any_both ((ap (bits_from c.words_at.result.now 0) (sym c.requires.widths) ∙ c.words_at.ensures.bits) i) (c.words.ensures.bits i))
