use Rattle.depot_hash.specs.Slugs.{letters}
use Rattle.depot_hash.proofs.slugs.first_four.Goals as goal

pub returns-clause-text : goal.returns-clause-text
unfolding letters
returns-clause-text c = rw c.slug_text.ensures.text
