use Rattle.version_graph.proofs.NeedLemmas.{needs_more}
use Rattle.version_graph.proofs.needs.add_needs.Goals as goal

pub loop-i-preserved : goal.loop-i-preserved
loop-i-preserved c =
    needs_more c.args.instance.now c.args.p c.loop-i.i c.args.rows.now c.loop-i.rows c.add_need.new.rows c.loop-i.invariant c.in_ok-add_need.ensures
