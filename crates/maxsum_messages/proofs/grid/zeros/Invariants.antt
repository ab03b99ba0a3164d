use Rattle.std.proofs.Common.{◌≡◌, replicate}
use Rattle.maxsum_messages.proofs.grid.zeros.Given as goal

abbrev pub invariant-loop-i : goal.invariant-loop-i
invariant-loop-i g l = l.row.items ≡ replicate l._i g.W.Weight.none
