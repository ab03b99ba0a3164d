use Rattle.std.proofs.Common.{◌∙◌, ℕ, ap, length}
use Rattle.std.proofs.lemmas.List.{length-replicate}
use Rattle.bit_rows.proofs.BitLemmas.{none_set}
use Rattle.bit_rows.proofs.RowLemmas.{bits-empty}
use Rattle.bit_rows.proofs.row.BitRow.make.Goals as goal

pub invariant_of-result : goal.invariant_of-result
invariant_of-result c = record {
  narrow = c.ranges.width.fits;
  long = ap length c.in_ok-words.ensures ∙ length-replicate {A = ℕ} c.word_count.result 0 ∙ c.word_count.ensures;
  clear = λ k h. none_set c.word_count.result c.in_ok-words.words.items k c.in_ok-words.ensures;
}

pub returns : goal.returns
returns c =
    bits-empty c.in_ok-words.words.items 0 c.args.width (λ k. none_set c.word_count.result c.in_ok-words.words.items k c.in_ok-words.ensures)
