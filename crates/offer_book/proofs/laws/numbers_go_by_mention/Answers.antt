use Rattle.offer_book.proofs.BookLemmas.{numbers_go_by_mention}
use Rattle.offer_book.proofs.laws.numbers_go_by_mention.Goals as goal

pub returns : goal.returns
returns c = numbers_go_by_mention
