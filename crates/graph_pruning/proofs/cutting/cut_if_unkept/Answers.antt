use Rattle.std.proofs.Common.{◌∙◌, sym}
use Rattle.version_graph.specs.Domain.{has}
use Rattle.graph_pruning.proofs.CutLemmas.{kept_stays, unkept_stays}
use Rattle.graph_pruning.proofs.cutting.cut_if_unkept.Goals as goal

pub returns-then-has-clause-cut : goal.returns-then-has-clause-cut
returns-then-has-clause-cut c = λ q i.
    kept_stays c.args.instance.now c.args.kept.now (has c.args.domains.now) q i c.args.p (sym c.has.ensures ∙ c.if-has.true)

pub returns-clause-cut : goal.returns-clause-cut
returns-clause-cut c = λ q i.
    c.cut_to.ensures.cut q i ∙ (rw c.states.ensures.count (unkept_stays c.args.instance.now c.args.kept.now (has c.args.domains.now) q i c.args.p (sym c.has.ensures ∙ c.if-has.false)))
