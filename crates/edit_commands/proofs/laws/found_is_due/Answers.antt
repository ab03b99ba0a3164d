-- by the laws of the book and of resolving
use Rattle.edit_commands.proofs.DueLemmas.{due}
use Rattle.edit_commands.proofs.laws.found_is_due.Goals as goal

pub returns : goal.returns
returns c = λ files catalog edit book o answer gathers sound found.
    due c.book_offers_are_all.ensures.offers c.numbers_are_reached.ensures c.valid_alike.ensures c.raised_alike.ensures c.feasible_alike.ensures.cut
    c.resolved_is_best.ensures c.unsatisfiable_is_none.ensures c.given_up_is_spent.ensures files catalog edit book gathers sound o answer found
