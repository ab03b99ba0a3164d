use Rattle.selection_check.proofs.RaiseLemmas.{raise_has_place}
use Rattle.selection_check.proofs.laws.raise_has_place.Goals as goal

pub returns : goal.returns
returns c = raise_has_place
