use Rattle.std.proofs.Common.{◌*◌}
use Rattle.bit_rows.specs.Stored.{meet_at, NoneFrom}
use Rattle.bit_rows.proofs.words.any_in_common.Given as goal

abbrev pub invariant-loop-n : goal.invariant-loop-n
invariant-loop-n l = NoneFrom (meet_at l.a l.b) 0 (8 * l.n)

abbrev pub invariant-loop-k : goal.invariant-loop-k
invariant-loop-k l = NoneFrom (meet_at l.a l.b) 0 l.k
