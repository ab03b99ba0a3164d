use Rattle.book_graph.proofs.Ids.{number_in_some, number_in_none}
use Rattle.book_graph.proofs.numbers.number_in.Goals as goal

pub returns-in-Some : goal.returns-in-Some
returns-in-Some c = number_in_some c.args.book.now c.packages-count.ensures.once c.args.uuid.now c.in-Some.package c.in-Some.ensures

pub returns-in-None : goal.returns-in-None
returns-in-None c = number_in_none c.args.book.now c.packages-count.ensures.once c.args.uuid.now c.in-None.ensures
