-- The machine's step is the code's, and where it stops or stands at no end is the first bad place.
use Rattle.std.proofs.Common.{◌≡◌, Err, ap, sym, subst, ◌∙◌}
use Rattle.std.proofs.lemmas.List.{take_more}
use Rattle.jl_versions.specs.Machine.{run, run-snoc, IsFirstBadOf, stopped_first_bad, stopped_meant, ended_meant, unended_meant}
use Rattle.compat_spec.specs.RangeMachine.{range_step, range_end, range_start}
use Rattle.compat_spec.specs.Meant.{range_meant}
use Rattle.compat_spec.specs.Ranges.{IsRange}
use Rattle.compat_spec.proofs.Machines.{run_whole}
use Rattle.compat_spec.proofs.RangeReads.{range_accepts, range_ends, range_unended}
use Rattle.compat_spec.proofs.range.bounds_of.Goals as goal

pub returns-in-None-clause-bad : goal.returns-in-None-clause-bad
returns-in-None-clause-bad c =
    subst (λ text. IsFirstBadOf IsRange text c.loop-place.place) c.as_bytes-byte-items.ensures.value
    (stopped_first_bad range_accepts _ c.loop-place.place c.loop-place.stage c.loop-place-test.true c.loop-place.invariant (sym c.in-None.ensures))

pub loop-place-preserved : goal.loop-place-preserved
loop-place-preserved c =
    ap (run range_step range_start) (take_more _ c.loop-place.place 0 c.loop-place-test.true)
    ∙ run-snoc range_step range_start c.loop-place.stage _ _ c.loop-place.invariant
    ∙ sym c.in-Some.ensures

pub returns-in-Some-finish-clause-ok : goal.returns-in-Some-finish-clause-ok
returns-in-Some-finish-clause-ok c =
    range_ends _ c.loop-place.stage _
    (run_whole range_step range_start _ _ _ c.loop-place.place c.as_bytes-byte-items.ensures.value c.loop-place-test.false c.loop-place.invariant)
    c.in-Some-finish.ensures

pub returns-in-None-finish-clause-bad : goal.returns-in-None-finish-clause-bad
returns-in-None-finish-clause-bad c =
    range_unended _ c.loop-place.stage
    (run_whole range_step range_start _ _ _ c.loop-place.place c.as_bytes-byte-items.ensures.value c.loop-place-test.false c.loop-place.invariant)
    c.in-None-finish.ensures

pub returns-in-None-clause-meant : goal.returns-in-None-clause-meant
unfolding range_meant
returns-in-None-clause-meant c =
    subst (λ text. range_meant text ≡ Err c.loop-place.place) c.as_bytes-byte-items.ensures.value
    (stopped_meant range_step range_end range_start c.loop-place.stage _ c.loop-place.place c.loop-place-test.true c.loop-place.invariant (sym c.in-None.ensures))

pub returns-in-Some-finish-clause-meant : goal.returns-in-Some-finish-clause-meant
unfolding range_meant
returns-in-Some-finish-clause-meant c =
    ended_meant range_step range_end range_start c.loop-place.stage _ _
    (run_whole range_step range_start _ _ _ c.loop-place.place c.as_bytes-byte-items.ensures.value c.loop-place-test.false c.loop-place.invariant)
    c.in-Some-finish.ensures

pub returns-in-None-finish-clause-meant : goal.returns-in-None-finish-clause-meant
unfolding range_meant
returns-in-None-finish-clause-meant c =
    unended_meant range_step range_end range_start c.loop-place.stage _
    (run_whole range_step range_start _ _ _ c.loop-place.place c.as_bytes-byte-items.ensures.value c.loop-place-test.false c.loop-place.invariant)
    c.in-None-finish.ensures
