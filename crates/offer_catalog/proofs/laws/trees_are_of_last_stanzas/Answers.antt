use Rattle.offer_catalog.proofs.StanzasFound.{last-trees}
use Rattle.offer_catalog.proofs.laws.trees_are_of_last_stanzas.Goals as goal

pub returns : goal.returns
returns c = last-trees
