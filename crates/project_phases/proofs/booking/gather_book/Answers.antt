-- a book that is refused
use Rattle.offer_terms.specs.Demanded.{wanted}
use Rattle.offer_book.specs.Scope.{scope}
use Rattle.offer_book.specs.Gathered.{gathered}
use Rattle.project_phases.proofs.RefusalLemmas.{book_refuses}
use Rattle.project_phases.proofs.booking.gather_book.Goals as goal

pub returns-in-Err-clause-told : goal.returns-in-Err-clause-told
returns-in-Err-clause-told g c =
    book_refuses (g.S.Store.files c.args.store.now) (λ all. gathered all c.args.catalog.now (scope (wanted c.args.demand.now)) c.args.extra.now.items)
    c.in-Err.fault _ c.book_status.ensures c.in-Err.ensures.told
