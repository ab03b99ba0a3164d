use Rattle.std.proofs.Common.{sym, ◌∙◌}
use Rattle.graph_pruning.proofs.PartingLemmas.{part_same, part_more}
use Rattle.graph_pruning.proofs.reducing.push_kept.Goals as goal

pub returns-then-not-has : goal.returns-then-not-has
returns-then-not-has c = λ m. part_same _ _ _ c.args.p c.args.part.now (sym c.has.ensures ∙ c.if-not-has.true) m

pub returns : goal.returns
returns c = λ m. part_more _ _ _ c.args.p c.args.part.now c.push.new.self _ (sym c.has.ensures ∙ c.if-not-has.false) c.in_ok-states.ensures c.in_ok-push.ensures.ok m
