use Rattle.offer_catalog.proofs.ConsultedLemmas.{catalog-rests}
use Rattle.offer_catalog.proofs.laws.catalog_rests_on_files.Goals as goal

pub returns : goal.returns
returns c = catalog-rests
