use Rattle.import_lookup.proofs.Whole.{whole_told}
use Rattle.import_lookup.proofs.importing.import.Goals as goal

pub returns-clause-whole : goal.returns-clause-whole
returns-clause-whole g c = whole_told _ c.imported.result c.args.stack.now c.args.context.now c.args.name.now c.imported.ensures.told
