-- by the log that the text tells
use Rattle.offer_terms.specs.Booked.{book_offers}
use Rattle.offer_terms.specs.Demanded.{wanted}
use Rattle.log_check.proofs.LogLemmas.{by_nodes}
use Rattle.log_check.proofs.verdict.of_text.Goals as goal

pub returns-in-Ok-clause-answer : goal.returns-in-Ok-clause-answer
returns-in-Ok-clause-answer c =
    by_nodes (book_offers c.args.book.now) (wanted c.args.demand.now) c.args.book.now c.args.path c.args.text.now c.in-Ok.log.items c.in-Ok.ensures.ok _ c.of_nodes.ensures.answer
