use Rattle.std.proofs.Common.{arith}
use Rattle.bit_rows.proofs.BitLemmas.{all_set}
use Rattle.bit_rows.proofs.words.set_all.Goals as goal

pub returns-clause-bits : goal.returns-clause-bits
returns-clause-bits c k below = all_set _ k (c.loop-word.invariant _ (omega arith))
