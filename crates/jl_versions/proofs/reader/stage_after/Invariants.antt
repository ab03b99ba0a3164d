-- The machine stands at the stage after the bytes so far.
use Rattle.std.proofs.Common.{◌≡◌, Some, take}
use Rattle.jl_versions.specs.Machine.{run}
use Rattle.jl_versions.specs.Stages.{step}
use Rattle.jl_versions.specs.declared.reader.Stage.TheVariants.{Fresh}
use Rattle.jl_versions.proofs.reader.stage_after.Given as goal

abbrev pub invariant-loop-place : goal.invariant-loop-place
invariant-loop-place l = run step Fresh (take l.place l.bytes) ≡ Some l.stage
