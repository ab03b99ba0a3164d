use Rattle.std.proofs.Common.{arith, get_or, sym}
use Rattle.version_graph.specs.Domain.{has}
use Rattle.graph_pruning.proofs.ReachLemmas.{known_in}
use Rattle.graph_pruning.proofs.ClassLemmas.{alike_from}
use Rattle.graph_pruning.proofs.equality.are_equal.Goals as goal

pub are_alike-requires-clause-first_state : goal.are_alike-requires-clause-first_state
are_alike-requires-clause-first_state c = (known_in c.args.instance.now c.args.domains.now c.args.p c.args.i c.requires.made c.requires.first).1

pub are_alike-requires-clause-second_state : goal.are_alike-requires-clause-second_state
are_alike-requires-clause-second_state c = (known_in c.args.instance.now c.args.domains.now c.args.p c.args.j c.requires.made c.requires.second).1

pub returns-then-not-are_alike : goal.returns-then-not-are_alike
returns-then-not-are_alike c = λ s.
    let q = get_or c.neighbours-neighbours.result.now c.loop-q.q-index 0 in
    let apart = c.neighbours-neighbours.ensures.apart c.loop-q.q-index (omega arith) in
    c.if-not-are_alike.ensures (record { alike = λ k there. s.alike q k apart there })

pub returns : goal.returns
returns c =
    alike_from c.args.instance.now (has c.args.domains.now) c.args.p c.args.i c.args.j c.neighbours-neighbours.result.now c.requires.first c.requires.second
    c.neighbours-neighbours.ensures.whole (λ n k below there. (c.loop-q.invariant n (omega (arith, below))).alike k there)
