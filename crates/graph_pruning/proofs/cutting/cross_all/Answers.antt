use Rattle.std.proofs.Common.{◌≡◌, ◌∙◌, arith}
use Rattle.version_graph.specs.Graph.{states}
use Rattle.graph_pruning.proofs.CutLemmas.{all_crossed}
use Rattle.graph_pruning.proofs.cutting.cross_all.Goals as goal

pub returns-clause-without : goal.returns-clause-without
returns-clause-without c = λ q k.
    let j : c.loop-j.j ≡ states c.args.instance.now c.args.p = omega (arith, c.states-j-end.ensures) in
    (rw j at (c.loop-j.invariant.cut q k)) ∙ all_crossed c.args.instance.now c.args.domains.now c.args.trail.now c.args.p q k c.requires.held
