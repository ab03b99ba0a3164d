use Rattle.std.proofs.Common.{◌≡◌, ◌∙◌, arith}
use Rattle.version_graph.proofs.RowLemmas.{rows-offered, counted-from}
use Rattle.version_graph.proofs.TrailLemmas.{fresh-holds}
use Rattle.version_graph.specs.Graph.{packages}
use Rattle.version_graph.proofs.domain.Domains.full.Goals as goal

pub invariant_of-result : goal.invariant_of-result
invariant_of-result c = counted-from c.loop-p.rows.items c.loop-p.sizes.items c.loop-p.p c.loop-p.invariant.each c.loop-p.invariant.few c.loop-p.invariant.counts c.loop-p.invariant.count

pub returns-clause-offered : goal.returns-clause-offered
returns-clause-offered c =
    rows-offered c.args.instance.now c.loop-p.rows.items c.loop-p.p c.loop-p.invariant.each (omega (arith, c.packages-p-end.ensures.count)) c.loop-p.invariant.offered

pub returns-clause-fresh : goal.returns-clause-fresh
returns-clause-fresh c t f =
    let whole : c.loop-p.p ≡ packages c.args.instance.now = omega (arith, c.packages-p-end.ensures.count) in
    fresh-holds c.args.instance.now c.loop-p.rows.items t
    (record { each = c.loop-p.invariant.each ∙ whole; wide = λ p h. c.loop-p.invariant.wide p (omega (arith, h, whole)) })
    (rows-offered c.args.instance.now c.loop-p.rows.items c.loop-p.p c.loop-p.invariant.each whole c.loop-p.invariant.offered) f
