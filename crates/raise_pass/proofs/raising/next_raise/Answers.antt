use Rattle.std.proofs.Common.{◌≡◌, ◌<◌, false, set, arith, ap, sym, subst, ◌∙◌, length}
use Rattle.std.proofs.lemmas.List.{length-set}
use Rattle.raise_pass.specs.Reached.{is_marked}
use Rattle.raise_pass.specs.Scratch.{AreStuck}
use Rattle.raise_pass.proofs.MarkLemmas.{unmarked-other, unmarked-more, unmarked-next}
use Rattle.raise_pass.proofs.StuckLemmas.{stuck-more}
use Rattle.raise_pass.proofs.raising.next_raise.Goals as goal
use Rattle.raise_pass.proofs.raising.next_raise.Goals.{then-is_set+in_default, else-is_set}

pub loop-p-init : goal.loop-p-init
loop-p-init c = record { each = c.requires.loose.each; stuck = c.requires.stuck; done = c.requires.loose.below.none }

pub loop-p-preserved : goal.loop-p-preserved
loop-p-preserved c =
    let inv = c.loop-p.invariant in
    let g = c.args.instance.now in
    let old = c.loop-p.loose.marks.items in
    let p = c.loop-p.p in
    let inside : p < length old = (let l = inv.each in omega (arith, l)) in
    elim c.if-is_set.branch [
      | then-is_set+in_default w ↦
          let e : c.if-is_set.loose.marks.items ≡ set old p false = ap (λ v. v.marks.items) w.loose-is ∙ w.set.ensures in
          record {
            each = ap length e ∙ length-set old p false ∙ inv.each;
            stuck = stuck-more g c.args.chosen.now old c.if-is_set.loose.marks.items p inv.stuck w.in_default.ensures (unmarked-other old c.if-is_set.loose.marks.items p e);
            done = unmarked-more old c.if-is_set.loose.marks.items p inside e inv.done;
          }
      | else-is_set w ↦
          let same : c.if-is_set.loose.marks.items ≡ old = ap (λ v. v.marks.items) w.loose-is in
          let out : is_marked old p ≡ false = ap (λ m. is_marked m p) (sym c.deref.ensures.value) ∙ sym c.is_set.ensures ∙ w.if-is_set.false in
          record {
            each = ap length same ∙ inv.each;
            stuck = subst (AreStuck g c.args.chosen.now) (sym same) inv.stuck;
            done = λ q b. ap (λ m. is_marked m q) same ∙ unmarked-next old p out inv.done q b;
          }
    ]
