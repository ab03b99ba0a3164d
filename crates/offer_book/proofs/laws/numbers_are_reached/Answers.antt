use Rattle.offer_book.proofs.BookLemmas.{numbers_are_reached}
use Rattle.offer_book.proofs.laws.numbers_are_reached.Goals as goal

pub returns : goal.returns
returns c = numbers_are_reached
