use Rattle.offer_book.proofs.BookLemmas.{raised_alike}
use Rattle.offer_book.proofs.laws.raised_alike.Goals as goal

pub returns : goal.returns
returns c = raised_alike
