use Rattle.manifest_writing.proofs.Said.{selection_is_said}
use Rattle.manifest_writing.proofs.laws.selection_is_said.Goals as goal

pub returns : goal.returns
returns c = selection_is_said
