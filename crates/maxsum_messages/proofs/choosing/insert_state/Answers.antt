use Rattle.std.proofs.Common.{◌+◌, subst, sym}
use Rattle.version_graph.specs.Domain.{has}
use Rattle.maxsum_messages.specs.Belief.{belief}
use Rattle.maxsum_messages.specs.Searched.{AreInOrderBelow, IsSplit}
use Rattle.maxsum_messages.proofs.InOrder.{in-order-insert}
use Rattle.maxsum_messages.proofs.choosing.insert_state.Goals as goal

pub returns-clause-sorted : goal.returns-clause-sorted
returns-clause-sorted g c =
    let value = belief g.W.Weight.none g.W.Weight.plus c.args.fields.now c.args.inbox.now c.args.p in
    let test = has c.args.domains.now c.args.p in
    let place = c.place_for-place.result in
    let split = subst (λ xs. IsSplit g.W.Ord.cmp value xs c.args.i place place) c.as_slice.ensures.value c.place_for-place.ensures in
    subst (AreInOrderBelow g.W.Ord.cmp (c.args.i + 1) test value) (sym c.in-Ok.ensures.items)
    (in-order-insert g.W.Ord.cmp g.met.W.Ord.total value test c.args.states.now.items place c.args.i split.bound c.requires.sorted c.requires.there split.before split.after)
