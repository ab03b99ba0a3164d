use Rattle.offer_catalog.proofs.StanzasFound.{last-selected, selected-rise}
use Rattle.offer_catalog.proofs.laws.last_stanza_is_selected.Goals as goal

pub returns : goal.returns
returns c = record { last = last-selected; rising = selected-rise }
