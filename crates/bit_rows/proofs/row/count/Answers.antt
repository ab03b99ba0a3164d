use Rattle.std.proofs.Common.{◌≡◌, ◌∙◌, ap, arith, length}
use Rattle.std.proofs.Common.{count_by}
use Rattle.std.proofs.lemmas.List.Sums.{count_by-le-length}
use Rattle.bit_rows.proofs.RowLemmas.{count-told}
use Rattle.bit_rows.proofs.row.count.Goals as goal
use Rattle.bit_rows.proofs.row.count.Goals.{After-bit_count}

counted : (c : After-bit_count) → c.bit_count.result ≡ count_by (λ b. b) c.args.row.now
counted c =
    c.bit_count.ensures ∙ count-told c.words.result.now (length c.args.row.now) c.words.ensures.row ∙ ap (count_by (λ b. b)) c.words.ensures.bits

pub overflow_cast-result : goal.overflow_cast-result
overflow_cast-result c = omega (arith, counted c, count_by-le-length (λ b. b) c.args.row.now, c.words.ensures.narrow)

pub returns : goal.returns
returns c = counted c
