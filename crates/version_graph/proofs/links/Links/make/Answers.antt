use Rattle.std.proofs.Common.{arith}
use Rattle.version_graph.proofs.LinkLemmas.{free-from}
use Rattle.version_graph.proofs.links.Links.make.Goals as goal

pub returns-clause-free : goal.returns-clause-free
returns-clause-free c =
    free-from c.args.numbers.items c.loop-k.tables.items c.args.count c.args.sizes.now
    (λ k h. c.loop-k.invariant.at k (omega (arith, h, c.loop-k-test.false, c.len-k-end.ensures, c.args.numbers.ok.0)))
