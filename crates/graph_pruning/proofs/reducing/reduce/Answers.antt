use Rattle.graph_pruning.proofs.PartingLemmas.{part_from, reduced_from}
use Rattle.graph_pruning.proofs.reducing.reduce.Goals as goal

pub restricted-requires : goal.restricted-requires
restricted-requires c = part_from c.args.instance.now c.args.domains.now c.args.kept.now c.args.classes.now _ c.requires.made c.requires.standing c.requires.filled c.in_ok-back.ensures

pub returns : goal.returns
returns c = reduced_from c.args.instance.now c.args.domains.now c.args.kept.now c.args.classes.now _ _ c.requires.marks c.in_ok-back.ensures c.in_ok-reduced.ensures
