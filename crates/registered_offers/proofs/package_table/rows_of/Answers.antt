-- The registry lists the package as the tables are looked for.
use Rattle.registered_offers.proofs.ReadingLemmas.{tables-told}
use Rattle.registered_offers.proofs.package_table.rows_of.Goals as goal

pub returns-clause-told : goal.returns-clause-told
returns-clause-told g c = tables-told _ c.registry.result.now c.args.registry.now c.args.uuid.now c.rows.result c.registry.ensures c.rows.ensures.told
