use Rattle.std.proofs.Common.{◌∙◌, sym, arith, subst, ◌<◌}
use Rattle.version_graph.specs.Graph.{packages}
use Rattle.version_graph.specs.Domain.{has}
use Rattle.graph_pruning.proofs.SpreadLemmas.{clear-skip, clear-step, noted-known, match-weaker}
use Rattle.graph_pruning.proofs.closing.step.Goals as goal

pub returns-then-following-q-clause-answer : goal.returns-then-following-q-clause-answer
returns-then-following-q-clause-answer c =
    clear-skip c.args.instance.now (has c.args.domains.now) c.args.trail.now.notes c.args.next (packages c.args.instance.now) c.package_at-q.result
    (omega arith) (sym c.package_at-q.ensures) (sym c.package_at-following.ensures ∙ c.if-following-q.true) c.requires.clear

pub clear-requires-clause-known : goal.clear-requires-clause-known
clear-requires-clause-known c =
    subst (λ n. n < packages c.args.instance.now) (sym c.package_at-q.ensures) (noted-known c.args.instance.now c.args.domains.now c.args.trail.now c.args.next c.requires.held c.requires.below)

pub returns-clause-answer : goal.returns-clause-answer
returns-clause-answer c = match-weaker c.clear.result _ _ _
    (λ new. clear-step c.args.instance.now c.args.domains.now c.clear.new.domains c.args.trail.now c.clear.new.trail c.args.next (packages c.args.instance.now) c.package_at-q.result
    c.requires.held c.clear.ensures.keeps c.clear.ensures.extends c.clear.ensures.shrinks c.requires.below (sym c.package_at-q.ensures) c.requires.clear new)
    c.clear.ensures.answer
