use Rattle.std.proofs.Common.{arith}
use Rattle.version_graph.proofs.RowLemmas.{has_known}
use Rattle.decimation_repair.proofs.deciding.state_left.Goals as goal

pub unreachable-requires : goal.unreachable-requires
unreachable-requires c =
    let count = c.size-count.ensures.count in
    let filled = c.requires.filled in
    let some = c.size-count.ensures.some (omega (arith, count, filled)) in
    let inside = (has_known c.args.domains.now c.args.p some.0 some.1).1 in
    let wide = c.requires.made.wide c.args.p c.requires.known in
    let all = c.states-state-end.ensures.count in
    let done = c.loop-state-test.false in
    let out = c.loop-state.invariant.below some.0 (omega (arith, inside, wide, all, done)) in
    let is = some.1 in
    absurd (cc)
