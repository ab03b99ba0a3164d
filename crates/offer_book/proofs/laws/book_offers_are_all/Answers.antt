use Rattle.offer_book.proofs.BookLemmas.{book_offers_are_all, book_tells_sources}
use Rattle.offer_book.proofs.laws.book_offers_are_all.Goals as goal

pub returns : goal.returns
returns c = record { offers = book_offers_are_all; sources = book_tells_sources }
