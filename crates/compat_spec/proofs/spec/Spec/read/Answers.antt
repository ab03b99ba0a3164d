-- The machine's step is the code's, and where it stops or stands at no end is the first bad place.
use Rattle.std.proofs.Common.{◌≡◌, Err, ap, subst, ◌∙◌}
use Rattle.std.proofs.lemmas.List.{take_more}
use Rattle.jl_versions.specs.Machine.{run, run-snoc, IsFirstBadOf, stopped_first_bad, stopped_meant, ended_meant, unended_meant}
use Rattle.compat_spec.specs.SpecMachine.{progress, specifier_step, specifier_end, specifier_start}
use Rattle.compat_spec.specs.Meant.{specifier_meant}
use Rattle.compat_spec.specs.Specifiers.{IsSpecifier}
use Rattle.compat_spec.proofs.Machines.{run_whole}
use Rattle.compat_spec.proofs.SpecReads.{specifier_accepts, specifier_ends, specifier_unended, part_ended, part_unended}
use Rattle.compat_spec.proofs.spec.Spec.read.Goals as goal

pub returns-in-None-clause-bad : goal.returns-in-None-clause-bad
returns-in-None-clause-bad c =
    subst (λ text. IsFirstBadOf IsSpecifier text c.loop-place.place) c.as_bytes-byte-items.ensures.value
    (stopped_first_bad specifier_accepts _ c.loop-place.place (progress c.loop-place.parts.items c.loop-place.stage) c.loop-place-test.true c.loop-place.invariant (rw c.in-None.is at c.in_ok-after.ensures))

pub loop-place-preserved : goal.loop-place-preserved
loop-place-preserved c =
    ap (run specifier_step specifier_start) (take_more _ c.loop-place.place 0 c.loop-place-test.true)
    ∙ run-snoc specifier_step specifier_start (progress c.loop-place.parts.items c.loop-place.stage) _ _ c.loop-place.invariant
    ∙ (rw c.in-Some.is at c.in_ok-after.ensures)

pub returns-in_ok-push-in-Some-finish-clause-ok : goal.returns-in_ok-push-in-Some-finish-clause-ok
returns-in_ok-push-in-Some-finish-clause-ok c =
    specifier_ends _ c.loop-place.parts.items _ c.loop-place.stage c.in-Some-finish.part
    (run_whole specifier_step specifier_start _ _ _ c.loop-place.place c.as_bytes-byte-items.ensures.value c.loop-place-test.false c.loop-place.invariant)
    c.in-Some-finish.ensures c.in_ok-push-in-Some-finish.ensures.items

pub returns-in-None-finish-clause-bad : goal.returns-in-None-finish-clause-bad
returns-in-None-finish-clause-bad c =
    specifier_unended _ c.loop-place.parts.items c.loop-place.stage
    (run_whole specifier_step specifier_start _ _ _ c.loop-place.place c.as_bytes-byte-items.ensures.value c.loop-place-test.false c.loop-place.invariant)
    c.in-None-finish.ensures

pub returns-in-None-clause-meant : goal.returns-in-None-clause-meant
unfolding specifier_meant
returns-in-None-clause-meant c =
    subst (λ text. specifier_meant text ≡ Err c.loop-place.place) c.as_bytes-byte-items.ensures.value
    (stopped_meant specifier_step specifier_end specifier_start (progress c.loop-place.parts.items c.loop-place.stage) _ c.loop-place.place c.loop-place-test.true c.loop-place.invariant (rw c.in-None.is at c.in_ok-after.ensures))

pub returns-in_ok-push-in-Some-finish-clause-meant : goal.returns-in_ok-push-in-Some-finish-clause-meant
unfolding specifier_meant
returns-in_ok-push-in-Some-finish-clause-meant c =
    ended_meant specifier_step specifier_end specifier_start (progress c.loop-place.parts.items c.loop-place.stage) _ _
    (run_whole specifier_step specifier_start _ _ _ c.loop-place.place c.as_bytes-byte-items.ensures.value c.loop-place-test.false c.loop-place.invariant)
    (part_ended c.loop-place.parts.items _ c.loop-place.stage c.in-Some-finish.part c.in-Some-finish.ensures c.in_ok-push-in-Some-finish.ensures.items)

pub returns-in-None-finish-clause-meant : goal.returns-in-None-finish-clause-meant
unfolding specifier_meant
returns-in-None-finish-clause-meant c =
    unended_meant specifier_step specifier_end specifier_start (progress c.loop-place.parts.items c.loop-place.stage) _
    (run_whole specifier_step specifier_start _ _ _ c.loop-place.place c.as_bytes-byte-items.ensures.value c.loop-place-test.false c.loop-place.invariant)
    (part_unended c.loop-place.parts.items c.loop-place.stage c.in-None-finish.ensures)
