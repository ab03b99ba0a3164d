use Rattle.std.proofs.Common.{◌∙◌}
use Rattle.selection_check.proofs.Ranks.{no_rank}
use Rattle.selection_check.proofs.ranking.rank.Goals as goal

pub returns-in-None : goal.returns-in-None
returns-in-None c = c.packages.ensures.count ∙ no_rank c.args.book.now c.args.uuid.now c.in-None.ensures
