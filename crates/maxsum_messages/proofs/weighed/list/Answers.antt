use Rattle.std.proofs.Common.{◌≡◌, ◌∙◌, ◌+◌, ◌<◌, ◌^◌, ◌++◌, ◌∷◌, [], true, false, length, get_or, vec_capacity, ap, subst, sym, arith}
use Rattle.std.proofs.lemmas.List.{length-append}
use Rattle.std.proofs.lemmas.List.Elements.{All-nil, All-push}
use Rattle.std.specs.List.{All}
use Rattle.version_graph.specs.Domain.{has}
use Rattle.maxsum_messages.specs.Round.{weight_for}
use Rattle.maxsum_messages.specs.Weighed.{AreWeighedBelow}
use Rattle.maxsum_messages.proofs.Best.{in-range}
use Rattle.maxsum_messages.proofs.Partners.{weighed-none, weighed-more, weighed-skip, weighed-end}
use Rattle.maxsum_messages.proofs.weighed.list.Goals as goal
use Rattle.maxsum_messages.proofs.weighed.list.Goals.{then-has, else-has}

pub loop-i-preserved : goal.loop-i-preserved
loop-i-preserved g c =
    let test = has c.args.domains.now c.args.p in
    let value = weight_for g.W.Weight.none g.W.Weight.plus c.args.fields.now c.args.inbox.now c.args.q c.args.p in
    let inv = c.loop-i.invariant in
    let old = c.loop-i.weighed.items in
    let i = c.loop-i.i in
    elim c.if-has.branch [
      | then-has w ↦
          let e : c.if-has.weighed.items ≡ old ++ (w.weight.result, i) ∷ [] = ap (λ v. v.items) w.weighed-is ∙ w.append.ensures.items in
          record {
            weighed = subst (AreWeighedBelow (i + 1) test value) (sym e) (weighed-more test value i old w.weight.result inv.weighed (sym c.has.ensures ∙ w.if-has.true) w.weight.ensures.weight);
            each = subst (All (λ x. g.W.Weight.is_within (2 ^ 52) x.0 × (x.1 < get_or c.args.inbox.now.sizes c.args.p 0))) (sym e)
                (All-push (λ x. g.W.Weight.is_within (2 ^ 52) x.0 × (x.1 < get_or c.args.inbox.now.sizes c.args.p 0)) old (w.weight.result, i) inv.each (w.weight.ensures.small, omega (arith, c.size-i-end.ensures)));
            few = omega (arith, ap length e, length-append old ((w.weight.result, i) ∷ []), inv.few);
            room = omega (arith, inv.room, w.append.ensures.room, ap (λ v. vec_capacity v) w.weighed-is);
          }
      | else-has w ↦
          let same : c.if-has.weighed.items ≡ old = ap (λ v. v.items) w.weighed-is in
          record {
            weighed = subst (AreWeighedBelow (i + 1) test value) (sym same) (weighed-skip test value i old inv.weighed (sym c.has.ensures ∙ w.if-has.false));
            each = subst (All (λ x. g.W.Weight.is_within (2 ^ 52) x.0 × (x.1 < get_or c.args.inbox.now.sizes c.args.p 0))) (sym same) inv.each;
            few = omega (arith, ap length same, inv.few);
            room = omega (arith, inv.room, ap (λ v. vec_capacity v) w.weighed-is);
          }
    ]

pub returns-clause-weighed : goal.returns-clause-weighed
returns-clause-weighed g c =
    weighed-end (has c.args.domains.now c.args.p) (weight_for g.W.Weight.none g.W.Weight.plus c.args.fields.now c.args.inbox.now c.args.q c.args.p) c.loop-i.i c.loop-i.weighed.items c.loop-i.invariant.weighed
    (λ i t.
    let there = in-range c.args.domains.now c.args.p i t in
    omega (arith, there, c.requires.domain_places, c.size-i-end.ensures))
