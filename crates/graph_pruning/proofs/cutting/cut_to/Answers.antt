use Rattle.std.proofs.Common.{◌∙◌, sym}
use Rattle.version_graph.specs.Domain.{has}
use Rattle.graph_pruning.proofs.CutLemmas.{crossed_narrows}
use Rattle.graph_pruning.proofs.cutting.cut_to.Goals as goal

pub returns-clause-cut : goal.returns-clause-cut
returns-clause-cut c = λ q j.
    c.cross_all.ensures.without q j ∙ crossed_narrows (has c.args.domains.now) c.args.p c.args.i q j (sym c.has.ensures ∙ c.if-has.false)
