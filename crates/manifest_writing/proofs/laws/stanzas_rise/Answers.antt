use Rattle.manifest_writing.proofs.Said.{stanzas_rise}
use Rattle.manifest_writing.proofs.laws.stanzas_rise.Goals as goal

pub returns : goal.returns
returns c = stanzas_rise
