use Rattle.std.proofs.Common.{arith}
use Rattle.maxsum_messages.proofs.Best.{in-range, both-first}
use Rattle.maxsum_messages.proofs.choosing.lead_of.Goals as goal

pub difference-requires-clause-first : goal.difference-requires-clause-first
difference-requires-clause-first g c =
    let best = c.in-Some.ensures in
    let there = in-range c.args.domains.now c.args.p best.place (both-first _ _ best.passes) in
    omega (arith, there, best.here, c.requires.aligned.domain_places c.args.p c.requires.known)

pub difference-requires-clause-second : goal.difference-requires-clause-second
difference-requires-clause-second g c =
    let best = c.in-Some-best_but.ensures in
    let there = in-range c.args.domains.now c.args.p best.place (both-first _ _ best.passes) in
    omega (arith, there, best.here, c.requires.aligned.domain_places c.args.p c.requires.known)
