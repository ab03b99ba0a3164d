-- A store that tells no files tells none afterwards.
use Rattle.file_replacing.proofs.ReplaceLemmas.{untold}
use Rattle.file_replacing.proofs.replacing.replace_all.Goals as goal

pub returns-clause-untold : goal.returns-clause-untold
returns-clause-untold g c = untold _ _ _ _ c.replace_each.ensures.replaces
