use Rattle.std.proofs.Common.{subst, sym, arith}
use Rattle.version_graph.specs.Graph.{packages, are_neighbours, IsListOf}
use Rattle.maxsum_messages.specs.Kept.{AreSenders}
use Rattle.maxsum_messages.proofs.Sums.{rising-few}
use Rattle.maxsum_messages.proofs.building.neighbours_of.Goals as goal

pub returns-clause-senders : goal.returns-clause-senders
returns-clause-senders c =
    let list = c.neighbours-neighbours.result.now in
    let told = c.neighbours-neighbours.ensures in
    let fewer = rising-few list (packages c.args.instance.now) c.args.p told.list.rising told.known c.requires.known told.apart in
    subst (AreSenders (packages c.args.instance.now) c.args.p) (sym c.in_ok-row.ensures.items)
    (record { rising = told.list.rising; known = told.known; apart = told.apart; few = omega (arith, fewer, c.requires.few) })

pub returns-clause-listed : goal.returns-clause-listed
returns-clause-listed c = subst (IsListOf (are_neighbours c.args.instance.now c.args.p)) (sym c.in_ok-row.ensures.items) c.neighbours-neighbours.ensures.list
