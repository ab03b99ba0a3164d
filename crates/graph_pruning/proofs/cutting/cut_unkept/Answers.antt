use Rattle.std.proofs.Common.{◌≡◌, ◌∙◌, ◌==◌, ◌&&◌, ◌||◌, not, ap, arith}
use Rattle.version_graph.specs.Graph.{packages}
use Rattle.version_graph.specs.Domain.{has}
use Rattle.graph_pruning.proofs.CutLemmas.{stays, unkept_step, all_cut, earlier_first}
use Rattle.graph_pruning.proofs.cutting.cut_unkept.Goals as goal

pub loop-p-preserved : goal.loop-p-preserved
loop-p-preserved c =
    let inv = c.loop-p.invariant in
    let g = c.args.instance.now in
    record {
      held = c.cut_if_unkept.ensures.keeps;
      cut = λ q i.
          c.cut_if_unkept.ensures.cut q i ∙ ap (λ b. b && (not (q == c.loop-p.p) || stays g c.args.kept.now c.loop-p.p i)) (inv.cut q i)
          ∙ unkept_step g c.args.kept.now (has c.args.domains.now q i) q i c.loop-p.p;
      earlier = earlier_first _ _ _ inv.earlier c.cut_if_unkept.ensures.earlier;
    }

pub returns-clause-cut : goal.returns-clause-cut
returns-clause-cut c = λ p i.
    let j : c.loop-p.p ≡ packages c.args.instance.now = omega (arith, c.packages-p-end.ensures.count) in
    (rw j at (c.loop-p.invariant.cut p i)) ∙ all_cut c.args.instance.now c.args.kept.now c.args.domains.now c.args.trail.now p i c.requires.held
