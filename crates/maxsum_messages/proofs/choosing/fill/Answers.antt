use Rattle.std.proofs.Common.{ap, arith, length}
use Rattle.version_graph.specs.Domain.{has}
use Rattle.maxsum_messages.specs.Belief.{belief}
use Rattle.maxsum_messages.proofs.Best.{in-range}
use Rattle.maxsum_messages.proofs.InOrder.{in-order-end, in-order-empty}
use Rattle.maxsum_messages.proofs.choosing.fill.Goals as goal

pub loop-i-init : goal.loop-i-init
loop-i-init g c =
    let value = belief g.W.Weight.none g.W.Weight.plus c.args.fields.now c.args.inbox.now c.args.p in
    record {
      sorted = in-order-empty g.W.Ord.cmp g.met.W.Ord.total value (has c.args.domains.now c.args.p) c.clear.new.self.items c.clear.ensures.items;
      few = omega (arith, ap length c.clear.ensures.items);
      room = omega arith;
    }

pub returns-clause-order : goal.returns-clause-order
returns-clause-order g c =
    let value = belief g.W.Weight.none g.W.Weight.plus c.args.fields.now c.args.inbox.now c.args.p in
    in-order-end g.W.Ord.cmp g.met.W.Ord.total value (has c.args.domains.now c.args.p) c.loop-i.i c.loop-i.states.items c.loop-i.invariant.sorted
    (λ i t.
    let there = in-range c.args.domains.now c.args.p i t in
    omega (arith, there, c.requires.aligned.domain_places c.args.p c.requires.known, c.size-i-end.ensures))
