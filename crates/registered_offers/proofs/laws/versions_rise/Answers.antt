use Rattle.registered_offers.proofs.MergedLemmas.{versions-rise, rows-are-of-their-versions}
use Rattle.registered_offers.proofs.laws.versions_rise.Goals as goal

pub returns : goal.returns
returns c = record { rise = versions-rise; own = rows-are-of-their-versions }
