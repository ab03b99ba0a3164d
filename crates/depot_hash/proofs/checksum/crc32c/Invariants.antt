use Rattle.std.proofs.Common.{◌≡◌, drop}
use Rattle.depot_hash.specs.Registers.{registers}
use Rattle.depot_hash.proofs.checksum.crc32c.Given as goal

abbrev pub invariant-loop-byte : goal.invariant-loop-byte
invariant-loop-byte l = registers l.initial.register l.bytes ≡ registers l.register (drop l.byte-index l.bytes)
