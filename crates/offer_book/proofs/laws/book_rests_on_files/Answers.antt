use Rattle.offer_book.proofs.RestLemmas.{book_rests_on_files}
use Rattle.offer_book.proofs.laws.book_rests_on_files.Goals as goal

pub returns : goal.returns
returns c = book_rests_on_files
