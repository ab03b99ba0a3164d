use Rattle.std.proofs.Common.{◌≡◌, ◌^◌, ◌+◌, ◌∙◌, ap, subst, sym, arith, [], ◌∷◌, length, get_or, replicate}
use Rattle.std.proofs.lemmas.List.{length-append}
use Rattle.version_graph.specs.Graph.{states, packages}
use Rattle.maxsum_messages.proofs.Rows.{cell, zero-pushed, wide-pushed, nothing}
use Rattle.maxsum_messages.proofs.fields.Fields.make.Goals as goal

pub loop-p-init : goal.loop-p-init
loop-p-init g c =
    let none = g.W.Weight.none in
    record {
      each = ap length c.make-grid.ensures;
      wide = λ q h. absurd (omega (arith, h, ap length c.make-grid.ensures));
      zero = λ q i. ap (λ f. cell none f q i) c.make-grid.ensures ∙ nothing none q i;
    }

pub loop-p-preserved : goal.loop-p-preserved
loop-p-preserved g c =
    let none = g.W.Weight.none in
    let new = c.in_ok-push_zeros.ensures in
    let here = c.loop-p.invariant.each in
    record {
      each = ap length new ∙ length-append c.loop-p.grid _ ∙ ap (λ n. n + 1) here;
      wide = λ q h. ap (λ f. length (get_or f q [])) new
          ∙ wide-pushed none c.loop-p.grid c.states.result (states c.args.instance.now) c.loop-p.invariant.wide (c.states.ensures.count ∙ ap (states c.args.instance.now) (sym here)) q
          (omega (arith, h, ap length new, length-append c.loop-p.grid (replicate c.states.result none ∷ [])));
      zero = λ q i. ap (λ f. cell none f q i) new ∙ zero-pushed none c.loop-p.grid c.states.result c.loop-p.invariant.zero q i;
    }

pub invariant_of-result : goal.invariant_of-result
invariant_of-result g c = record { at = λ p i. subst (g.W.Weight.is_within (2 ^ 24)) (sym (c.loop-p.invariant.zero p i)) (g.met.W.Weight.within_more 0 (2 ^ 24) g.W.Weight.none g.met.W.Weight.none_within (omega arith)) }

pub returns-clause-shape : goal.returns-clause-shape
returns-clause-shape g c =
    let whole : length c.loop-p.grid ≡ packages c.args.instance.now = omega (arith, c.loop-p.invariant.each, c.packages-p-end.ensures.count) in
    record { each = whole; wide = λ p h. c.loop-p.invariant.wide p (omega (arith, h, whole)) }

pub returns-clause-zero : goal.returns-clause-zero
returns-clause-zero g c = c.loop-p.invariant.zero
