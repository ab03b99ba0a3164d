use Rattle.version_graph.specs.Domain.{has}
use Rattle.graph_pruning.proofs.CutLemmas.{closure_under, open_or_not, standing_where}
use Rattle.graph_pruning.proofs.pruning.prune.Goals as goal

pub returns-clause-pruned : goal.returns-clause-pruned
returns-clause-pruned c =
    let g = c.args.instance.now in
    let closed = has c.close_whole-is_open.new.domains in
    record {
      closed = closed;
      pruning = record {
        closure = closure_under g (has c.args.domains.now) closed c.requires.full c.close_whole-is_open.ensures.closure;
        reached = c.in_ok-kept.ensures.kept;
        classes = standing_where g (has c.cut_unkept.new.domains) _ _ c.cut_unkept.ensures.cut c.in_ok-found.ensures.classes;
      };
      domains = c.cut_unkept.ensures.cut;
      each = c.in_ok-kept.ensures.each;
      shape = c.in_ok-found.ensures.shape;
      filled = open_or_not g (has c.args.domains.now) closed c.close_whole-is_open.result c.requires.full c.close_whole-is_open.ensures.answer;
    }
