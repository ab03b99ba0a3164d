use Rattle.std.proofs.Common.{bit_and}
use Rattle.std.specs.Int.Bits.{bit_xor}
use Rattle.bit_rows.proofs.LaneLemmas.{lanes-zip2}
use Rattle.bit_rows.proofs.lanes.differing.Goals as goal

pub returns : goal.returns
returns c = lanes-zip2 bit_and _ c.load-3.result _ _ (lanes-zip2 bit_xor c.load.result c.load-2.result _ _ c.load.ensures c.load-2.ensures) c.load-3.ensures
