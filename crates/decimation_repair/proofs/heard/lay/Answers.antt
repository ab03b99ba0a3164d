use Rattle.decimation_repair.proofs.AdviceLemmas.{closed-under, never-emptied}
use Rattle.decimation_repair.proofs.heard.lay.Goals as goal

pub unreachable-requires : goal.unreachable-requires
unreachable-requires c = absurd (never-emptied c.args.instance.now c.args.path.now c.cut_to.new.domains c.requires.open c.cut_to.ensures.cut c.in-Empty.ensures.answer.empty)

pub returns-clause-closed : goal.returns-clause-closed
returns-clause-closed c = closed-under c.args.instance.now c.args.path.now c.cut_to.new.domains c.close.new.domains c.cut_to.ensures.cut c.in-Stable.ensures.answer
