use Rattle.version_graph.specs.Domain.{has}
use Rattle.graph_pruning.proofs.CutLemmas.{standing_back, pruned_filled, pruned_some, reduced_where}
use Rattle.graph_pruning.proofs.pruning.Pruned.reduced.Goals as goal

pub reduce-requires-clause-standing : goal.reduce-requires-clause-standing
reduce-requires-clause-standing c =
    let p = c.requires.pruned in
    standing_back c.args.instance.now (has c.args.domains.now) _ _ p.domains p.pruning.classes

pub reduce-requires-clause-filled : goal.reduce-requires-clause-filled
reduce-requires-clause-filled c =
    let p = c.requires.pruned in
    pruned_some c.args.instance.now (has c.args.domains.now) p.closed c.args.self.now.kept c.args.self.now.classes p.each p.domains (pruned_filled c.args.instance.now p.closed c.args.self.now.is_open c.requires.filled p.filled)

pub returns : goal.returns
returns c =
    let p = c.requires.pruned in
    let g = c.args.instance.now in (
      p.closed,
      record {
        graph = c.packages-packages.ensures.sound;
        plain = c.requires.plain;
        pruning = p.pruning;
        filled = pruned_filled g p.closed c.args.self.now.is_open c.requires.filled p.filled;
        reduced = reduced_where g (has c.args.domains.now) _ _ _ _ _ p.domains c.in_ok-reduced.ensures;
      },
    )
