-- One more byte: the machine goes one byte further.
use Rattle.std.proofs.Common.{sym, ◌∙◌}
use Rattle.jl_versions.specs.Machine.{run_further}
use Rattle.jl_versions.specs.Stages.{step}
use Rattle.jl_versions.specs.declared.reader.Stage.TheVariants.{Fresh}
use Rattle.jl_versions.proofs.reader.stage_after.Goals as goal

pub loop-place-preserved : goal.loop-place-preserved
loop-place-preserved c =
    run_further step Fresh c.loop-place.stage c.in-Some.next c.args.bytes.now c.loop-place.place c.loop-place-test.true c.loop-place.invariant (sym c.in-Some.is ∙ c.in_ok-next.ensures)
