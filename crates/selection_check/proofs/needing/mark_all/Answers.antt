use Rattle.std.proofs.Common.{◌<◌, length, refl, sym, arith}
use Rattle.std.proofs.lemmas.Option.{slice_get_read}
use Rattle.selection_check.proofs.NeedLemmas.{marks_more, marks_all, grows_on}
use Rattle.selection_check.proofs.needing.mark_all.Goals as goal

pub loop-id-preserved : goal.loop-id-preserved
loop-id-preserved c =
    let inv = c.loop-id.invariant in
    let ids = c.args.ids.now in
    let k = c.loop-id.id-index in
    let e = c.id-item.result in
    let inside : k < length ids = omega arith in
    record {
      listed = c.mark_id.ensures.listed;
      first = marks_more c.args.book.now ids c.args.marks.now.items c.loop-id.marks.items c.mark_id.new.marks.items k e _ _ inv.first
          (slice_get_read ids (length ids) k e refl inside c.id-item.is) (k, inside, sym c.id-item.is) c.mark_id.ensures.marks c.mark_id.ensures.grows;
      grows = grows_on _ _ _ _ _ _ inv.grows c.mark_id.ensures.grows;
      room = (let a = inv.room in let b = c.mark_id.ensures.room in omega (arith, a, b));
    }

pub returns-clause-marks : goal.returns-clause-marks
returns-clause-marks c = marks_all c.args.book.now c.args.ids.now c.args.marks.now.items c.loop-id.marks.items c.loop-id.id-index c.loop-id.invariant.first (omega (arith, c.loop-id-test.false))
