use Rattle.offer_terms.specs.Demanded.{wanted}
use Rattle.resolve_core.proofs.Faults.{refused_past}
use Rattle.resolve_core.proofs.resolving.resolve.Goals as goal

pub returns-in-Err-clause-err : goal.returns-in-Err-clause-err
returns-in-Err-clause-err c = refused_past c.args.book.now (wanted c.args.demand.now) c.args.budget c.in-Err.fault c.of_limit.result c.in-Err.ensures.past c.of_limit.ensures
