-- by what the file holds
use Rattle.std.specs.Prelude.{option_map}
use Rattle.pkg_world.specs.Tree.{holds, file_bytes}
use Rattle.offer_terms.specs.Booked.{book_offers}
use Rattle.offer_terms.specs.Demanded.{wanted}
use Rattle.log_check.proofs.LogLemmas.{by_file}
use Rattle.log_check.proofs.verdict.log_verdict.Goals as goal

pub returns-in-Ok-clause-answer : goal.returns-in-Ok-clause-answer
returns-in-Ok-clause-answer g c =
    by_file (g.S.Store.files c.args.store.now) (book_offers c.args.book.now) (wanted c.args.demand.now) c.args.book.now c.args.path (option_map (λ b. b.items) c.in-Ok.found)
    (λ all. file_bytes (holds c.args.path all)) c.in-Ok.ensures.found _ c.of_file.ensures.answer
