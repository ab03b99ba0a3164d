use Rattle.log_text.specs.Text.{IsLogText}
use Rattle.log_text.proofs.BadLines.{one_line}
use Rattle.log_text.proofs.laws.one_bad_line.Goals as goal

pub returns : goal.returns
returns c = λ text line other one two. one_line IsLogText text line other one two
