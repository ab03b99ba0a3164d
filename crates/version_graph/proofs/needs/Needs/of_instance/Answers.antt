use Rattle.std.proofs.Common.{◌≡◌, ◌<◌, rules, arith}
use Rattle.version_graph.specs.Graph.{packages}
use Rattle.version_graph.proofs.PartLemmas.{one_le_sum}
use Rattle.version_graph.proofs.NeedLemmas.{upto_next, upto_end}
use Rattle.version_graph.proofs.needs.Needs.of_instance.Goals as goal

pub loop-p-preserved : goal.loop-p-preserved
loop-p-preserved c =
    let g = c.args.instance.now in
    let known : c.loop-p.p < packages g = omega (arith, c.packages-p-end.ensures.count, c.loop-p-test.true) in
    upto_next g c.loop-p.firsts.items _ c.loop-p.rows c.add_needs.new.rows c.loop-p.p c.count.result (search rules) c.loop-p.invariant c.in_ok-add_needs.ensures
    (omega (arith, one_le_sum g.sizes c.loop-p.p known, c.packages-p-end.ensures.sound.small)) c.count.ensures

pub returns : goal.returns
returns c = upto_end c.args.instance.now c.loop-p.firsts.items c.loop-p.rows c.loop-p.p c.loop-p.invariant (omega (arith, c.packages-p-end.ensures.count))
