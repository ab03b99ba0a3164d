use Rattle.check_command.proofs.LimitLemmas.{has_few}
use Rattle.check_command.proofs.judging.with_scratch.Goals as goal

pub good_lines-requires-clause-few : goal.good_lines-requires-clause-few
good_lines-requires-clause-few c = has_few c.args.book.now _ c.requires.fits
