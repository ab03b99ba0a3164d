use Rattle.std.proofs.Common.{◌<◌, true, arith, refl, ◌∙◌, ap, length, get_or}
use Rattle.std.proofs.lemmas.List.{length-set}
use Rattle.raise_pass.specs.Reached.{is_marked}
use Rattle.raise_pass.proofs.MarkLemmas.{marked-set, marked-more, unmarked-before, marked-here}
use Rattle.raise_pass.proofs.ReachLemmas.{met-more}
use Rattle.raise_pass.proofs.StuckLemmas.{stuck-changed}
use Rattle.raise_pass.proofs.changing.change.Goals as goal

pub add-requires-clause-known : goal.add-requires-clause-known
add-requires-clause-known c = (let known = c.requires.known in let each = c.requires.loose.each in omega (arith, known, each))

pub add-requires-clause-below : goal.add-requires-clause-below
add-requires-clause-below c = c.requires.loose.below

pub loop-q-init : goal.loop-q-init
loop-q-init c =
    let inside : c.args.p < length c.args.loose.now.marks.items = (let k = c.requires.known in let l = c.requires.loose.each in omega (arith, k, l)) in
    record {
      each = ap length c.add.ensures.marks ∙ length-set c.args.loose.now.marks.items c.args.p true ∙ c.requires.loose.each;
      below = c.add.ensures.below;
      less = λ q f. f;
      here = marked-here c.args.loose.now.marks.items _ c.args.p inside c.add.ensures.marks;
      met = λ k b. absurd (omega (arith, b));
    }

pub loop-q-preserved : goal.loop-q-preserved
loop-q-preserved c =
    let inv = c.loop-q.invariant in
    let q = get_or c.neighbours-neighbours.result.now c.loop-q.q-index 0 in
    let known = c.neighbours-neighbours.ensures.known c.loop-q.q-index (omega arith) in
    let inside : q < length c.loop-q.loose.marks.items = (let l = inv.each in omega (arith, known, l)) in
    let e = c.add-in-loop-q.ensures.marks in
    record {
      each = ap length e ∙ length-set c.loop-q.loose.marks.items q true ∙ inv.each;
      below = c.add-in-loop-q.ensures.below;
      less = λ r f. inv.less r (unmarked-before c.loop-q.loose.marks.items _ q inside e r f);
      here = marked-more c.loop-q.loose.marks.items _ q inside e c.args.p inv.here;
      met = met-more c.loop-q.loose.marks.items _ c.neighbours-neighbours.result.now c.loop-q.q-index q refl (λ r. ap (λ m. is_marked m r) e ∙ marked-set c.loop-q.loose.marks.items q inside r) inv.met;
    }

pub returns-clause-stuck : goal.returns-clause-stuck
returns-clause-stuck c =
    let inv = c.loop-q.invariant in
    let inside : c.args.p < length c.args.loose.now.marks.items = (let k = c.requires.known in let l = c.requires.loose.each in omega (arith, k, l)) in
    stuck-changed c.args.instance.now c.args.states.now.items _ c.args.p c.args.j c.args.loose.now.marks.items c.loop-q.loose.marks.items c.neighbours-neighbours.result.now
    c.requires.stuck c.set.ensures.items (λ q f. unmarked-before c.args.loose.now.marks.items _ c.args.p inside c.add.ensures.marks q (inv.less q f)) inv.here
    (λ k b. inv.met k (omega (arith, b))) c.neighbours-neighbours.ensures.whole
