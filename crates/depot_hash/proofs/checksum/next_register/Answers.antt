use Rattle.std.proofs.Common.{arith}
use Rattle.depot_hash.proofs.Divisions.{table_step}
use Rattle.depot_hash.proofs.checksum.next_register.Goals as goal

pub returns : goal.returns
returns c = rw c.eight_shifts.ensures (table_step c.args.register c.args.byte (omega arith))
