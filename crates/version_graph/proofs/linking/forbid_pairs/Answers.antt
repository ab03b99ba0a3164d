use Rattle.version_graph.proofs.LinkLemmas.{forbids_start, forbids_more}
use Rattle.version_graph.proofs.linking.forbid_pairs.Goals as goal

pub loop-pair-init : goal.loop-pair-init
loop-pair-init c = forbids_start c.args.links.now.items

pub loop-pair-preserved : goal.loop-pair-preserved
loop-pair-preserved c =
    let n = c.loop-pair.pair-index in
    forbids_more c.args.links.now.items c.loop-pair.links.items c.forbid_at.new.links.items c.forbid_at-in-loop-pair.new.links.items c.args.pairs.now n c.loop-pair-test.true
    c.loop-pair.invariant (c.requires n c.loop-pair-test.true).below c.forbid_at.ensures c.forbid_at-in-loop-pair.ensures
