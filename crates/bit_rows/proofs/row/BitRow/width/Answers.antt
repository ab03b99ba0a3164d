use Rattle.std.proofs.Common.{◌∙◌, ap, sym, length}
use Rattle.bit_rows.proofs.RowLemmas.{length-bits}
use Rattle.bit_rows.proofs.row.BitRow.width.Goals as goal

pub returns : goal.returns
returns c = sym (length-bits c.self.inside.words.items 0 c.self.inside.width) ∙ ap length c.self.view_is
