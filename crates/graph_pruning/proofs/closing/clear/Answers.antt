use Rattle.std.proofs.Common.{◌∙◌, ap, sym, subst, arith, inl, inr, get_or}
use Rattle.std.proofs.lemmas.Bool.{cases_eq}
use Rattle.version_graph.specs.Family.{Meets}
use Rattle.version_graph.specs.Domain.{has}
use Rattle.graph_pruning.proofs.SpreadLemmas.{extends-trans, shrinks-refl, shrinks-trans, empty-from, clear-from}
use Rattle.graph_pruning.proofs.closing.clear.Goals as goal

pub returns-then-size-eq0-clause-answer : goal.returns-then-size-eq0-clause-answer
returns-then-size-eq0-clause-answer c =
    empty-from c.args.instance.now (has c.args.domains.now) (has c.args.domains.now) c.args.q (shrinks-refl _ _) c.requires.known (c.size.ensures.none c.if-size-eq0.true)

pub returns-then-not-revise-clause-answer : goal.returns-then-not-revise-clause-answer
returns-then-not-revise-clause-answer c =
    empty-from c.args.instance.now (has c.args.domains.now) (has c.revise.new.domains) (get_or c.neighbours-neighbours.result.now c.loop-p.p-index 0)
    (shrinks-trans _ _ _ _ c.loop-p.invariant.shrinks c.revise.ensures.shrinks)
    (c.neighbours-neighbours.ensures.known c.loop-p.p-index (omega arith)) c.if-not-revise.ensures.left

pub loop-p-preserved : goal.loop-p-preserved
loop-p-preserved c =
    let inv = c.loop-p.invariant in
    let g = c.args.instance.now in
    let new = has c.revise.new.domains in
    let xs = c.neighbours-neighbours.result.now in
    let apart = c.neighbours-neighbours.ensures.apart c.loop-p.p-index (omega arith) in
    record {
      keeps = c.revise.ensures.keeps;
      extends = extends-trans _ _ _ inv.extends c.revise.ensures.extends;
      shrinks = shrinks-trans g _ _ _ inv.shrinks c.revise.ensures.shrinks;
      same = λ j. c.revise.ensures.others c.args.q j (λ e. apart (sym e)) ∙ inv.same j;
      met = λ k h i there. elim (cases_eq k c.loop-p.p-index) [
        | inl e ↦ subst (λ n. Meets g new (get_or xs n 0) i c.args.q) (sym e) (c.revise.ensures.supported i (ap (λ n. new (get_or xs n 0) i) (sym e) ∙ there))
        | inr n ↦
            let m = inv.met k (omega (arith, h, n)) i (c.revise.ensures.shrinks.within.at _ i there) in
            record { partner = m.partner; there = c.revise.ensures.others c.args.q m.partner (λ e. apart (sym e)) ∙ m.there; allowed = m.allowed }
      ];
    }

pub returns-clause-answer : goal.returns-clause-answer
returns-clause-answer c =
    let s = c.size.ensures.some (omega (arith, c.if-size-eq0.false)) in
    clear-from c.args.instance.now (has c.loop-p.domains) c.args.q c.neighbours-neighbours.result.now
    (s.0, c.loop-p.invariant.same s.0 ∙ s.1)
    (λ i p j e. c.neighbours-neighbours.ensures.whole i p j e)
    (λ k h. c.loop-p.invariant.met k (omega (arith, h)))
