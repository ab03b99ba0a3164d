use Rattle.offer_terms.proofs.Offers.{cut_stays_feasible}
use Rattle.offer_terms.proofs.laws.cut_stays_feasible.Goals as goal

pub returns : goal.returns
returns c = cut_stays_feasible
