use Rattle.offers_command.proofs.OfferRows.{lines-of-row}
use Rattle.offers_command.proofs.offer_lines.push_row.Goals as goal

pub returns : goal.returns
returns c = rw (← lines-of-row c.args.tables.now c.args.version.now c.in_ok-row.row c.in_ok-row.ensures) c.push_made.ensures
