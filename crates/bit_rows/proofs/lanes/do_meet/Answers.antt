use Rattle.bit_rows.specs.Stored.{meet_at}
use Rattle.bit_rows.proofs.LaneLemmas.{lanes_told}
use Rattle.bit_rows.proofs.lanes.do_meet.Goals as goal

pub returns : goal.returns
returns c = lanes_told c.met.result (meet_at c.args.a.now c.args.b.now) c.args.i c.is_any_set.result c.met.ensures c.is_any_set.ensures
