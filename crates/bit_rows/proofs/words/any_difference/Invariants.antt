use Rattle.std.proofs.Common.{◌*◌}
use Rattle.bit_rows.specs.Stored.{differ_at, NoneFrom}
use Rattle.bit_rows.proofs.words.any_difference.Given as goal

abbrev pub invariant-loop-n : goal.invariant-loop-n
invariant-loop-n l = NoneFrom (differ_at l.a l.b l.mask) 0 (8 * l.n)

abbrev pub invariant-loop-k : goal.invariant-loop-k
invariant-loop-k l = NoneFrom (differ_at l.a l.b l.mask) 0 l.k
