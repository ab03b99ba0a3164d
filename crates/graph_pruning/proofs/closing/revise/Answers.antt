use Rattle.std.proofs.Common.{◌∙◌, ap, sym, subst, arith, inl, inr}
use Rattle.std.proofs.lemmas.Bool.{cases_eq}
use Rattle.version_graph.specs.Family.{Meets}
use Rattle.version_graph.specs.Domain.{has}
use Rattle.graph_pruning.proofs.SpreadLemmas.{extends-trans, shrinks-trans, held-known}
use Rattle.graph_pruning.proofs.closing.revise.Goals as goal

pub loop-i-preserved : goal.loop-i-preserved
loop-i-preserved c =
    let inv = c.loop-i.invariant in
    let g = c.args.instance.now in
    let new = has c.drop_unmet.new.domains in
    record {
      keeps = c.drop_unmet.ensures.keeps;
      extends = extends-trans _ _ _ inv.extends c.drop_unmet.ensures.extends;
      shrinks = shrinks-trans g _ _ _ inv.shrinks c.drop_unmet.ensures.shrinks;
      others = λ r j a. c.drop_unmet.ensures.others r j a ∙ inv.others r j a;
      supported = λ k h there. elim (cases_eq k c.loop-i.i) [
        | inl e ↦ subst (λ n. Meets g new c.args.p n c.args.q) (sym e) (c.drop_unmet.ensures.supported (ap (new c.args.p) (sym e) ∙ there))
        | inr n ↦
            let m = inv.supported k (omega (arith, h, n)) (sym (c.drop_unmet.ensures.rest k n) ∙ there) in
            record { partner = m.partner; there = c.drop_unmet.ensures.others c.args.q m.partner (λ e. c.requires.apart (sym e)) ∙ m.there; allowed = m.allowed }
      ];
    }

pub returns-clause-supported : goal.returns-clause-supported
returns-clause-supported c i h =
    let k = held-known c.args.instance.now c.loop-i.domains c.loop-i.trail c.args.p i c.loop-i.invariant.keeps h in
    c.loop-i.invariant.supported i (omega (arith, k.1, c.states-i-end.ensures.count)) h
