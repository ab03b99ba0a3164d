use Rattle.std.proofs.Common.{arith}
use Rattle.version_graph.proofs.FamilyLemmas.{nowhere}
use Rattle.version_graph.proofs.TrailLemmas.{offered_known, held_offered}
use Rattle.refutation_log.proofs.Holding.{settled_shut}
use Rattle.refutation_log.proofs.board.Board.covers.Goals as goal

pub returns-then-not-is_open : goal.returns-then-not-is_open
returns-then-not-is_open c = λ i k.
    absurd (nowhere _ _ (settled_shut _ _ _ c.if-not-is_open.true c.requires.closed) c.args.p i k)

pub returns : goal.returns
returns c = λ i k.
    let here = k.within.at c.args.p i k.here in
    let below = (offered_known _ c.args.p i (held_offered _ _ _ c.requires.fits.domains c.args.p i here)).state in
    c.loop-i.invariant i (omega (arith, below, c.states-i-end.ensures)) here
