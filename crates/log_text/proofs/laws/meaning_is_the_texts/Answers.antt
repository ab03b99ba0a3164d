use Rattle.log_text.proofs.Nodes.{log_to, log_from}
use Rattle.log_text.proofs.BadLines.{log_bad, bad_told}
use Rattle.log_text.proofs.laws.meaning_is_the_texts.Goals as goal

pub returns : goal.returns
returns c = λ text. (λ nodes. (log_to text nodes, log_from text nodes), λ line. (log_bad text line, bad_told text line))
