use Rattle.std.proofs.Common.{arith}
use Rattle.selection_check.proofs.Ranks.{number_is_rank, number_inside, past_rank}
use Rattle.selection_check.proofs.OpenLemmas.{shut_book, shut_nowhere}
use Rattle.selection_check.proofs.opening.shut.Goals as goal

pub returns-in-Some-clause-narrows : goal.returns-in-Some-clause-narrows
returns-in-Some-clause-narrows g c =
    let book = c.args.book.now in
    let u = c.args.uuid.now in
    let p = c.in-Some.package in
    shut_book book c.args.table.now c.shut_row.new.table c.offers.result.now u p (g.R.Rule.allows c.args.rule.now) (number_is_rank book u p c.in-Some.ensures) (number_inside book u p c.in-Some.ensures)
    c.packages-count.ensures.once c.offers.ensures.offers c.shut_row.ensures

pub returns-in-None-clause-narrows : goal.returns-in-None-clause-narrows
returns-in-None-clause-narrows g c =
    let past = past_rank c.args.book.now c.args.uuid.now c.in-None.ensures in
    shut_nowhere c.args.book.now c.args.table.now c.args.uuid.now (g.R.Rule.allows c.args.rule.now) c.packages-count.ensures.once (λ inside. omega (arith, inside, past))
