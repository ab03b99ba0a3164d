use Rattle.std.proofs.Common.{length}
use Rattle.version_graph.specs.Domain.{has}
use Rattle.graph_pruning.proofs.SpreadLemmas.{extends-trans, shrinks-trans, empty-before, clear-more}
use Rattle.graph_pruning.proofs.closing.sweep.Goals as goal

pub returns-then-not-clear-clause-answer : goal.returns-then-not-clear-clause-answer
returns-then-not-clear-clause-answer c = empty-before c.args.instance.now (has c.args.domains.now) (has c.loop-q.domains) c.loop-q.invariant.shrinks c.if-not-clear.ensures.answer

pub loop-q-preserved : goal.loop-q-preserved
loop-q-preserved c =
    let inv = c.loop-q.invariant in
    record {
      keeps = c.clear.ensures.keeps;
      extends = extends-trans _ _ _ inv.extends c.clear.ensures.extends;
      shrinks = shrinks-trans _ _ _ _ inv.shrinks c.clear.ensures.shrinks;
      clear = clear-more c.args.instance.now c.loop-q.domains c.clear.new.domains c.loop-q.trail c.clear.new.trail (length c.args.trail.now.notes) c.loop-q.q
          inv.keeps c.clear.ensures.keeps c.clear.ensures.extends c.clear.ensures.shrinks inv.extends.longer inv.clear c.if-not-clear.ensures.answer;
    }
