use Rattle.depot_hash.specs.Slugs.{letters}
use Rattle.depot_hash.proofs.slugs.slug_text.Goals as goal

pub returns-clause-text : goal.returns-clause-text
unfolding letters
returns-clause-text c = rw (c.letter.ensures.letter, c.letter-2.ensures.letter, c.letter-3.ensures.letter, c.letter-4.ensures.letter, c.letter-5.ensures.letter)
