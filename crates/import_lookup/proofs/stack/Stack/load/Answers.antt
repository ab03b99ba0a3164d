use Rattle.import_lookup.proofs.Whole.{refused_told}
use Rattle.import_lookup.proofs.stack.Stack.load.Goals as goal

pub returns-clause-refused : goal.returns-clause-refused
returns-clause-refused g c = refused_told _ c.args.place.now c.args.names.now.items c.loaded.result c.loaded.ensures.told
