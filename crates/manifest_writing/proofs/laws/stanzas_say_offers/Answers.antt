use Rattle.manifest_writing.proofs.Said.{stanzas_say_offers}
use Rattle.manifest_writing.proofs.laws.stanzas_say_offers.Goals as goal

pub returns : goal.returns
returns c = stanzas_say_offers
