use Rattle.offer_book.proofs.BookLemmas.{feasible_in_book, feasible_over_all}
use Rattle.offer_book.proofs.laws.feasible_alike.Goals as goal

pub returns : goal.returns
returns c = record { cut = feasible_in_book; all = feasible_over_all }
