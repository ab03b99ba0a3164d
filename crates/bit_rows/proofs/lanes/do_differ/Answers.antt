use Rattle.bit_rows.specs.Stored.{differ_at}
use Rattle.bit_rows.proofs.LaneLemmas.{lanes_told}
use Rattle.bit_rows.proofs.lanes.do_differ.Goals as goal

pub returns : goal.returns
returns c = lanes_told c.differing.result (differ_at c.args.a.now c.args.b.now c.args.mask.now) c.args.i c.is_any_set.result c.differing.ensures c.is_any_set.ensures
