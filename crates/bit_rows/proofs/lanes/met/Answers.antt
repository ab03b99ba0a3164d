use Rattle.std.proofs.Common.{bit_and}
use Rattle.bit_rows.proofs.LaneLemmas.{lanes-zip2}
use Rattle.bit_rows.proofs.lanes.met.Goals as goal

pub returns : goal.returns
returns c = lanes-zip2 bit_and c.load.result c.load-2.result _ _ c.load.ensures c.load-2.ensures
