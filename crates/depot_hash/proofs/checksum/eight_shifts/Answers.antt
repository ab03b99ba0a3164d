use Rattle.std.proofs.Common.{arith}
use Rattle.depot_hash.proofs.StepTable.{step_at}
use Rattle.depot_hash.proofs.checksum.eight_shifts.Goals as goal

pub returns : goal.returns
returns c = rw c.from.ensures (step_at c.args.low (omega arith))
