use Rattle.std.proofs.Common.{sym, ◌∙◌}
use Rattle.log_text.proofs.Nodes.{log_from, same_ok}
use Rattle.log_text.proofs.laws.text_of_one.Goals as goal

pub returns : goal.returns
returns c = λ text nodes others one other. same_ok nodes others (sym (log_from text nodes one) ∙ log_from text others other)
