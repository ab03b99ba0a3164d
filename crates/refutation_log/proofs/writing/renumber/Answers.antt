use Rattle.std.proofs.Common.{◌≡◌, ◌∙◌, [], None, arith, ap, sym, length, reverse}
use Rattle.refutation_log.specs.Moved.{moved_nodes}
use Rattle.refutation_log.specs.Tree.{preorder}
use Rattle.refutation_log.specs.Renumbered.{renumbered}
use Rattle.refutation_log.proofs.MovedLemmas.{moved_end, moved_whole, moved_front}
use Rattle.refutation_log.proofs.writing.renumber.Goals as goal

pub returns-clause-listed : goal.returns-clause-listed
returns-clause-listed c t e =
    let all = c.items-nodes.result.now in
    moved_end c.args.back.now all c.loop-k.moved.items (reverse c.loop-k.waiting.items) c.loop-k.k c.loop-k.invariant (omega arith)
    ∙ moved_whole c.args.back.now all t (c.items-nodes.ensures ∙ e)

pub returns-clause-front : goal.returns-clause-front
returns-clause-front c t k e =
    let all = c.items-nodes.result.now in
    moved_end c.args.back.now all c.loop-k.moved.items (reverse c.loop-k.waiting.items) c.loop-k.k c.loop-k.invariant (omega arith)
    ∙ moved_front c.args.back.now all t k (c.items-nodes.ensures ∙ e)

pub returns-clause-refutes : goal.returns-clause-refutes
returns-clause-refutes c g h pr own t r u e refutes =
    let all = c.items-nodes.result.now in
    record {
      pruning = pr;
      prunes = r.pruning;
      tree = renumbered c.args.back.now t;
      listed = moved_end c.args.back.now all c.loop-k.moved.items (reverse c.loop-k.waiting.items) c.loop-k.k c.loop-k.invariant (omega arith)
          ∙ moved_whole c.args.back.now all t (c.items-nodes.ensures ∙ e);
      refutes = c.renumbered_refutes.ensures g pr h c.args.back.now r own u t refutes;
    }
