use Rattle.offer_catalog.proofs.NamedFound.{ids-named, ids-rise}
use Rattle.offer_catalog.proofs.laws.ids_are_those_named.Goals as goal

pub returns : goal.returns
returns c = record { those = ids-named; rising = ids-rise }
