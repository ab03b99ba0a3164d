-- the machine has gone through the bytes so far
use Rattle.std.proofs.Common.{◌≡◌, Some, take}
use Rattle.jl_versions.specs.Machine.{run}
use Rattle.compat_spec.specs.SpecMachine.{progress, specifier_step, specifier_start}
use Rattle.compat_spec.proofs.spec.Spec.read.Given as goal

abbrev pub invariant-loop-place : goal.invariant-loop-place
invariant-loop-place l = run specifier_step specifier_start (take l.place l.byte-items) ≡ Some (progress l.parts.items l.stage)
