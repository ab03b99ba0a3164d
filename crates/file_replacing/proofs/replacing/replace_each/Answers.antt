-- The rest is replaced behind the next file, or replacing stops at it.
use Rattle.std.proofs.Common.{◌∙◌, arith}
use Rattle.std.proofs.lemmas.Result.{err_from_is_err_and}
use Rattle.pkg_world.proofs.Each.{rest-step}
use Rattle.file_replacing.proofs.ReplaceLemmas.{next_done, next_stops}
use Rattle.file_replacing.proofs.replacing.replace_each.Goals as goal

pub loop-write-preserved : goal.loop-write-preserved
loop-write-preserved g c =
    let (onward, still, later, other) = c.loop-write.invariant in
    let next = rest-step c.args.writes.now c.loop-write.write-index c.write-item.result c.loop-write-test.true c.write-item.is in (
      next_done _ _ _ _ _ _ c.write-item.result next onward c.in_ok-replace_one.ensures.replaces,
      (λ none. absurd (omega (arith, none))),
      omega (arith, later, c.replace_one.ensures.later),
      c.replace_one.ensures.other ∙ other,
    )

pub returns-in_err-replace_one-clause-replaces : goal.returns-in_err-replace_one-clause-replaces
returns-in_err-replace_one-clause-replaces g c =
    let (onward, still, later, other) = c.loop-write.invariant in
    let next = rest-step c.args.writes.now c.loop-write.write-index c.write-item.result c.loop-write-test.true c.write-item.is in
    let p = err_from_is_err_and c.from_residual.result c.from_residual.ensures.1 in
    rw (p.1, p.2) (next_stops _ _ _ _ _ _ c.write-item.result _ next onward c.in_err-replace_one.ensures.replaces)
