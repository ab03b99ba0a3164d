use Rattle.std.proofs.Common.{◌≡◌, ◌∙◌, ◌==◌, ◌&&◌, not, ap, arith}
use Rattle.version_graph.specs.Graph.{packages}
use Rattle.version_graph.specs.Domain.{has}
use Rattle.graph_pruning.proofs.CutLemmas.{emptied_step, all_emptied, earlier_first}
use Rattle.graph_pruning.proofs.cutting.empty_all.Goals as goal

pub loop-p-preserved : goal.loop-p-preserved
loop-p-preserved c =
    let inv = c.loop-p.invariant in
    record {
      held = c.cross_all.ensures.keeps;
      cut = λ q k. c.cross_all.ensures.without q k ∙ ap (λ b. b && not (q == c.loop-p.p)) (inv.cut q k) ∙ emptied_step (has c.args.domains.now q k) q c.loop-p.p;
      earlier = earlier_first _ _ _ inv.earlier c.cross_all.ensures.earlier;
    }

pub returns-clause-none : goal.returns-clause-none
returns-clause-none c = λ p i.
    let j : c.loop-p.p ≡ packages c.args.instance.now = omega (arith, c.packages-p-end.ensures.count) in
    (rw j at (c.loop-p.invariant.cut p i)) ∙ all_emptied c.args.instance.now c.args.domains.now c.args.trail.now p i c.requires
