use Rattle.std.proofs.Common.{◌≡◌, ◌∙◌, ap, arith, length, take, get_or, count_ones, sum_by}
use Rattle.std.proofs.Math.Seq.{take-length}
use Rattle.std.proofs.lemmas.List.Sums.{sum_by_more}
use Rattle.std.proofs.lemmas.Nat.{ones-le}
use Rattle.bit_rows.proofs.BitLemmas.{words_bits}
use Rattle.bit_rows.proofs.words.bit_count.Goals as goal

pub loop-word-preserved : goal.loop-word-preserved
loop-word-preserved c =
    let xs = c.args.words.now in
    let i = c.loop-word.word-index in
    let more = sum_by_more count_ones xs i 0 c.loop-word-test.true in
    let few = ones-le 64 (get_or xs i 0) (c.type_inv.words i).fits in
    record {
      is = omega (arith, more, c.from-total.ensures, c.loop-word.invariant.is);
      few = omega (arith, few, c.from-total.ensures, c.loop-word.invariant.few);
    }

pub returns : goal.returns
returns c =
    let xs = c.args.words.now in
    let whole : c.loop-word.word-index ≡ length xs = omega (arith, c.loop-word-test.false) in
    c.loop-word.invariant.is ∙ ap (λ n. sum_by count_ones (take n xs)) whole ∙ ap (sum_by count_ones) (take-length xs) ∙ words_bits xs (λ k. (c.type_inv.words k).fits)
