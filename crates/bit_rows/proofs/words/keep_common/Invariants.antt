use Rattle.std.proofs.Common.{◌*◌}
use Rattle.bit_rows.specs.Stored.{HasMet}
use Rattle.bit_rows.proofs.words.keep_common.Given as goal

abbrev pub invariant-loop-n : goal.invariant-loop-n
invariant-loop-n l = HasMet l.fn.target l.other l.target 0 (8 * l.n)

abbrev pub invariant-loop-k : goal.invariant-loop-k
invariant-loop-k l = HasMet l.fn.target l.other l.target 0 l.k
