use Rattle.bit_rows.proofs.BitLemmas.{none_set}
use Rattle.bit_rows.proofs.RowLemmas.{rows-empty}
use Rattle.bit_rows.proofs.table.BitTable.make.Goals as goal

pub returns : goal.returns
returns c =
    rows-empty c.in_ok-words.words.items c.word_count-stride.result c.args.width c.args.rows (λ k. none_set _ c.in_ok-words.words.items k c.in_ok-words.ensures)
