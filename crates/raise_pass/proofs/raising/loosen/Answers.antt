use Rattle.std.proofs.Common.{◌<◌, true, arith, ap, refl, ◌∙◌, length}
use Rattle.std.proofs.lemmas.List.{length-set}
use Rattle.raise_pass.proofs.MarkLemmas.{marked-next}
use Rattle.raise_pass.proofs.raising.loosen.Goals as goal

pub loop-p-init : goal.loop-p-init
loop-p-init c = record { each = c.requires.each; start = refl; all = λ q b. absurd (omega (arith, b)) }

pub loop-p-preserved : goal.loop-p-preserved
loop-p-preserved c =
    let inv = c.loop-p.invariant in
    let old = c.loop-p.loose.marks.items in
    let inside : c.loop-p.p < length old = (let l = inv.each in omega (arith, l)) in
    record {
      each = ap length c.set.ensures ∙ length-set old c.loop-p.p true ∙ inv.each;
      start = inv.start;
      all = marked-next old _ c.loop-p.p inside c.set.ensures inv.all;
    }

pub returns-clause-loose : goal.returns-clause-loose
returns-clause-loose c =
    let inv = c.loop-p.invariant in
    record { each = inv.each; below = record { none = λ q b. absurd (let start = inv.start in omega (arith, b, start)) } }

pub returns-clause-stuck : goal.returns-clause-stuck
returns-clause-stuck c = λ chosen. record {
  stuck = λ p j out can.
      let is = c.loop-p.invariant.all p (let k = can.known in omega (arith, k)) in
      absurd (cc);
}
