use Rattle.std.proofs.Common.{◌≡◌, ◌≤◌, ◌*◌, take, sum_by, count_ones}
use Rattle.bit_rows.proofs.words.bit_count.Given as goal

abbrev pub invariant-loop-word : goal.invariant-loop-word
invariant-loop-word l = record { is : l.total ≡ sum_by count_ones (take l.word-index l.words); few : l.total ≤ 64 * l.word-index }
