-- The room of the tables' lists says nothing of the row.
use Rattle.registered_offers.proofs.RowLemmas.{row-told}
use Rattle.registered_offers.proofs.package_table.PackageTables.row.Goals as goal

pub returns : goal.returns
returns c = row-told c.self.inside.inside c.args.self.now c.args.version.now c.expand.result c.self.view_is c.expand.ensures
