use Rattle.offer_book.proofs.BookLemmas.{valid_alike}
use Rattle.offer_book.proofs.laws.valid_alike.Goals as goal

pub returns : goal.returns
returns c = valid_alike
