use Rattle.version_graph.specs.Domain.{has}
use Rattle.graph_pruning.specs.Marked.{standing_in}
use Rattle.version_graph.proofs.FamilyLemmas.{below_within, same_closure}
use Rattle.refutation_log.specs.Scratch.{marks}
use Rattle.refutation_log.proofs.Turns.{tree_within}
use Rattle.refutation_log.proofs.board.Board.accepts.Goals as goal

pub returns-clause-whole : goal.returns-clause-whole
returns-clause-whole c =
    let g = c.args.instance.now in
    let st = standing_in c.args.classes.now in
    let old = has c.args.self.now.domains in
    let new = has c.settle-is_open.new.domains in
    let between = c.settle-is_open.ensures.between in
    let whole = c.is_whole-accepted.ensures.whole in (
      (λ yes_so. tree_within g st old new (marks c.args.self.now) c.args.nodes.now _ (same_closure g old new between) (whole.0 yes_so)),
      (λ t. whole.1 (tree_within g st new old (marks c.args.self.now) c.args.nodes.now _ (below_within g new old between.within) t)),
    )
