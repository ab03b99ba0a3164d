-- by the verdict of one instance
use Rattle.offer_terms.specs.Demanded.{wanted}
use Rattle.log_check.proofs.AlikeLemmas.{verdict_told}
use Rattle.log_check.proofs.verdict.is_certificate.Goals as goal

pub returns-clause-verdict : goal.returns-clause-verdict
returns-clause-verdict c = verdict_told c.refuted_alike.ensures c.args.book.now (wanted c.args.demand.now) c.args.log.now.items _ c.verify_log.ensures.verdict
