use Rattle.std.proofs.Common.{◌<◌, ◌≤◌, vec_len}
use Rattle.std.specs.Io.KnownBytes.{Consumes}
use Rattle.jlpkg.specs.declared.host_store.TheConstants.{MOST_BYTES}
use Rattle.jlpkg.proofs.host_store.whole.Given as goal

abbrev pub invariant-loop : goal.invariant-loop
invariant-loop g l =
    (vec_len l.bytes ≤ MOST_BYTES) × (0 < vec_len l.buffer)
    × Consumes (g.F.Read.remaining l.initial.reader) (g.F.Read.remaining l.reader) l.bytes.items
