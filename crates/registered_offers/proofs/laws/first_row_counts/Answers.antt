use Rattle.registered_offers.proofs.MergedLemmas.{first-row-counts}
use Rattle.registered_offers.proofs.laws.first_row_counts.Goals as goal

pub returns : goal.returns
returns c = first-row-counts
