-- the machine has gone through the bytes so far
use Rattle.std.proofs.Common.{◌≡◌, Some, take}
use Rattle.jl_versions.specs.Machine.{run}
use Rattle.compat_spec.specs.RangeMachine.{range_step, range_start}
use Rattle.compat_spec.proofs.range.bounds_of.Given as goal

abbrev pub invariant-loop-place : goal.invariant-loop-place
invariant-loop-place l = run range_step range_start (take l.place l.byte-items) ≡ Some l.stage
