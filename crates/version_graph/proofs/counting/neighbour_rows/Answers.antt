use Rattle.version_graph.specs.Stored.{rows_of}
use Rattle.version_graph.proofs.GraphLemmas.{top-first, top-second}
use Rattle.version_graph.proofs.counting.neighbour_rows.Goals as goal

pub link_row-requires-clause-last : goal.link_row-requires-clause-last
link_row-requires-clause-last c =
    top-first c.args.count c.args.pairs.now c.loop-pair.pair-index c.requires.below c.requires.ordered c.loop-pair-test.true (rows_of c.loop-pair.rows.items) c.loop-pair.invariant

pub link_row-requires-in-loop-pair-clause-last : goal.link_row-requires-in-loop-pair-clause-last
link_row-requires-in-loop-pair-clause-last c =
    top-second c.args.count c.args.pairs.now c.loop-pair.pair-index c.requires.below c.requires.ordered c.loop-pair-test.true (rows_of c.loop-pair.rows.items)
    (rows_of c.link_row.new.rows.items) c.loop-pair.invariant c.in_ok-link_row.ensures.added
