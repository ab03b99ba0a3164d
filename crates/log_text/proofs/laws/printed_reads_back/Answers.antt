use Rattle.std.proofs.Common.{sym, ◌∙◌}
use Rattle.log_text.specs.Text.{text_of}
use Rattle.log_text.proofs.Nodes.{log_from, same_ok, text_means}
use Rattle.log_text.proofs.laws.printed_reads_back.Goals as goal

pub returns : goal.returns
returns c = λ nodes others printable is. same_ok others nodes (sym (log_from (text_of nodes) others is) ∙ text_means nodes printable)
