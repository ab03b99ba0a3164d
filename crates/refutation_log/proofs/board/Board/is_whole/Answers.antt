use Rattle.std.proofs.Common.{[]}
use Rattle.refutation_log.proofs.Whole.{whole_when_found}
use Rattle.refutation_log.proofs.board.Board.is_whole.Goals as goal

pub returns-in-Some-clause-whole : goal.returns-in-Some-clause-whole
returns-in-Some-clause-whole c =
    whole_when_found _ _ _ _ c.args.nodes.now c.in-Some.rest.now c.is_empty.result c.in-Some.ensures.found c.is_empty.ensures

pub returns-in-None-clause-whole : goal.returns-in-None-clause-whole
returns-in-None-clause-whole c = (λ e. absurd (cc), λ t. absurd (c.in-None.ensures.found.none [] t))
