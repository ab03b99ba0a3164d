use Rattle.pkg_world.proofs.Written.{writing_law, blocked_law}
use Rattle.pkg_world.proofs.writing.writing_sets_one_path.Goals as goal

pub returns-clause-sets : goal.returns-clause-sets
returns-clause-sets c = writing_law

pub returns-clause-blocked : goal.returns-clause-blocked
returns-clause-blocked c = blocked_law
