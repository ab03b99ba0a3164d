use Rattle.registered_offers.proofs.ConsultedLemmas.{registries-rest, tables-rest}
use Rattle.registered_offers.proofs.laws.readings_rest_on_files.Goals as goal

pub returns : goal.returns
returns c = record { registries = registries-rest; tables = tables-rest }
