use Rattle.instance_search.proofs.ProductLemmas.{product_is_enough}
use Rattle.instance_search.proofs.laws.product_suffices.Goals as goal

pub returns : goal.returns
returns c = product_is_enough c.walk_stays_within.ensures
